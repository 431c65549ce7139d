-- Contents with which a store may begin have an image.
--
-- Its numbers are bounded by the test itself, and those of items and runs by the next exchange. A run
-- ends by the length of its representation, which a head keeps small, and each run has a byte, so there
-- are no more runs than the length. Each item weighs 32,768 at least, so there are few items. Each head
-- has a record, since its type keeps that.
use Rattle.std.{proofs.{Common.{◌≡◌, ℕ, ◌+◌, ◌*◌, ◌<◌, ◌≤◌, ◌^◌, max, map, true, List, [], ◌∷◌, length, Option, Some, None, refl, arith}, lemmas.{Bool.{and_parts, both_ways, Decides.{nat_tests}}, List.{Elements.{All-nil, All-cons}, Sums.{sum_by-cons}}}}, specs.{List.{All, list_all}, Prelude.{nat_lt, nat_le}}}
use Rattle.hc_record.specs.Head.{IsHead, IsSmallTotal}
use Rattle.hc_rules.specs.declared.room.Limits.{Limits}
use Rattle.hc_sparse.specs.declared.run.Run.{Run}
use Rattle.hc_model.specs.{Beginnings.{ascend_from, is_own_run, is_kind_right, is_good, are_good, weights_of, may_begin}, Entries.{Content, Contents}, Tables.{last_end, bytes_in}}
use Rattle.hc_contents.specs.declared.contents.Content as coded
use Rattle.hc_contents.specs.declared.contents.Contents as coded_contents
use Rattle.hc_contents.specs.PlainContents.{plain_item, plain_contents}
use Rattle.hc_image.specs.Images.{HasRunText, HasItemText, HasImage}

below : (x n : ℕ) → nat_lt x n ≡ true → x < n
below x n h = grind (arith, nat_tests)

within : (x n : ℕ) → nat_le x n ≡ true → x ≤ n
within x n h = grind (arith, nat_tests)

left_max : (a b : ℕ) → a ≤ max a b
left_max a b = omega arith

right_max : (a b : ℕ) → b ≤ max a b
right_max a b = omega arith

-- RUNS

-- there are no more runs than positions before their end
few_runs : (n x : ℕ) (runs : List Run) → ascend_from n x runs ≡ true → n + length runs ≤ max n (last_end runs)
few_runs n x [] h = omega (arith, left_max n 0)
few_runs n x (run ∷ runs) h =
    let rest = and_parts _ _ h in
    let front = and_parts _ _ rest.0 in
    let both = and_parts _ _ front.0 in
    let place = within n run.at both.0 in
    let some = below 0 (length run.bytes) both.1 in
    let more = few_runs (run.at + length run.bytes) run.x runs rest.1 in
    let most = right_max n (max (run.at + length run.bytes) (last_end runs)) in
    omega (arith, place, some, more, most)

given_out : (contents : Contents) (earlier : List Content) (r : ℕ) (later : List Content) (run : Run) → is_own_run contents earlier r later run ≡ true →
    run.x < contents.next_exchange
given_out contents earlier r later run own =
    let outer = and_parts _ _ own in
    let inner = and_parts _ _ outer.0 in
    let given = and_parts _ _ inner.0 in
    below run.x contents.next_exchange given.1

module _ (contents : Contents) (earlier : List Content) (r : ℕ) (later : List Content) (total : ℕ) (next : contents.next_exchange ≤ 2 ^ 60)
    (small : total < 2 ^ 62) where
  run_has : (run : Run) → is_own_run contents earlier r later run ≡ true → run.at + length run.bytes ≤ total → HasRunText run
  run_has run own end =
      let x : run.x < contents.next_exchange = given_out contents earlier r later run own in
      record { x = omega (arith, x, next); place = omega (arith, end, small); count = omega (arith, end, small) }

  runs_have : (runs : List Run) → list_all (is_own_run contents earlier r later) runs ≡ true → last_end runs ≤ total → All HasRunText runs
  runs_have [] own end = All-nil HasRunText
  runs_have (run ∷ runs) own end =
      let both = and_parts _ _ own in
      let first = left_max (run.at + length run.bytes) (last_end runs) in
      let others = right_max (run.at + length run.bytes) (last_end runs) in
      All-cons HasRunText run runs (run_has run both.0 (omega (arith, first, end))) (runs_have runs both.1 (omega (arith, others, end)))

-- ITEMS

module _ (limits : Limits) (contents : Contents) (next : contents.next_exchange ≤ 2 ^ 60) where
  ends_by : (item : Content) (total : Option ℕ) → IsSmallTotal total → is_kind_right item total ≡ true → (n : ℕ) × (n < 2 ^ 62) × (last_end item.runs ≤ n)
  ends_by item None small h = absurd (both_ways _ refl h)
  ends_by item (Some total) small h =
      let both = and_parts _ _ h in (total, small total refl, within (last_end item.runs) total both.0)

  item_has : (earlier : List Content) (item : Content) (later : List Content) → IsHead item.head → is_good limits contents earlier item later ≡ true →
      HasItemText item
  item_has earlier item later own h =
      let head = and_parts _ _ h in
      let most = and_parts _ _ head.0 in
      let kind = and_parts _ _ most.0 in
      let rising = and_parts _ _ kind.0 in
      let numbers = and_parts _ _ rising.0 in
      let key = and_parts _ _ numbers.0 in
      let runs = and_parts _ _ numbers.1 in
      let r = and_parts _ _ (and_parts _ _ runs.0).0 in
      let small = below item.r contents.next_exchange r.1 in
      let end = ends_by item item.head.total own.small_total kind.1 in
      let few = few_runs 0 0 item.runs rising.1 in
      record {
        key = key.0;
        r = omega (arith, small, next);
        head = own;
        count = omega (arith, few, end.1, end.2);
        runs = runs_have contents earlier item.r later end.0 next end.1 item.runs runs.1 end.2;
      }

  items_have : (earlier : List Content) (items : List coded.Content) → are_good limits contents earlier (map plain_item items) ≡ true →
      All HasItemText (map plain_item items)
  items_have earlier [] h = All-nil HasItemText
  items_have earlier (item ∷ items) h =
      let both = and_parts _ _ h in
      All-cons HasItemText (plain_item item) (map plain_item items) (item_has earlier (plain_item item) (map plain_item items) item.head.own both.0)
      (items_have (plain_item item ∷ earlier) items both.1)

-- each weighs 32,768 at least
weighed : (items : List Content) → length items * 32768 ≤ weights_of items
weighed [] = omega arith
weighed (item ∷ items) =
    let more = weighed items in
    let both : weights_of (item ∷ items) ≡ (32768 + bytes_in item.runs) + weights_of items =
    sum_by-cons (λ (i : Content). 32768 + bytes_in i.runs) item items in
    omega (arith, more, both)

-- ALL

pub image_of_good : (limits : Limits) (contents : coded_contents.Contents) → limits.max_total < 2 ^ 64 → may_begin
    limits (plain_contents contents) ≡ true → HasImage (plain_contents contents)
unfolding may_begin
image_of_good limits contents total h =
    let weight = and_parts _ _ h in
    let next = and_parts _ _ weight.0 in
    let zero = and_parts _ _ next.0 in
    let last = and_parts _ _ zero.0 in
    let good = and_parts _ _ last.0 in
    let few = weighed (map plain_item contents.items) in
    let most = within (weights_of (map plain_item contents.items)) limits.max_total weight.1 in
    record {
      first = record {
        now = below contents.now (2 ^ 62) good.1;
        last = below contents.last_consumer (2 ^ 62) last.1;
        next = omega (arith, within contents.next_exchange (2 ^ 60) next.1);
        count = omega (arith, few, most, total);
      };
      items = items_have limits (plain_contents contents) (within contents.next_exchange (2 ^ 60) next.1) [] contents.items good.0;
    }
