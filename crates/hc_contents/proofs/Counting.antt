-- How many items are good, told item by item, and why contents don't fit.
--
-- An item is good by a test of its key and one of the rest (`good_is`). The loop keeps that so many are good, and that
-- the count goes on with those behind (`IsCounted`). An item that isn't good stops it (`stops`), a good one makes it
-- one more (`goes_on`). All are good where nothing stopped it (`good_to_end`). So the count tells which item doesn't
-- fit (`bad_item`), the tests behind it the other causes (`bad_number`); where none applies they fit (`begins_by`).
use Rattle.std.{proofs.{Common.{◌≡◌, ℕ, zero, suc, ◌+◌, ◌<◌, ◌≤◌, map, reverse, List, [], ◌∷◌, length, take, drop, get_or, Bool, true, false, cond, Option, Some, None, refl, ap, sym, ◌∙◌, arith}, lemmas.{Bool.Decides.{nat_tests}, List.{length-map, reverse-append}}}, specs.Prelude.{◌^◌, nat_le, nat_lt, not, is_none, ◌&&◌, if◌then◌else◌}}
use Rattle.hc_target.specs.Targets.{is_target}
use Rattle.hc_rules.specs.declared.room.Limits.{Limits}
use Rattle.hc_model.specs.{Beginnings.{ascend_from, is_kind_right, has_right_head, has_own_numbers, is_good, are_good, weights_of, may_begin}, Entries.{Content, Contents}, Tables.{bytes_in}}
use Rattle.hc_contents.specs.declared.contents.Content as coded
use Rattle.hc_contents.specs.{declared.unfit.Unfit.{Unfit}, Fit.{is_fit, count_good, has_good_numbers, unfit_of}, PlainContents.{plain_item}}
use Rattle.hc_contents.specs.declared.unfit.Unfit.TheVariants as unfit
use Rattle.hc_contents.proofs.Knowing.{take_reported}

-- ONE

-- an item is good where its key is a target, it is apart from the others, and it is right in itself
pub good_is : (limits : Limits) (contents : Contents) (earlier : List Content) (item : Content) (later : List Content) →
    is_good limits contents earlier item later ≡ (is_target item.key && is_fit limits contents earlier item later)
good_is limits contents earlier item later =
    by_parts (is_target item.key)
    (not (Rattle.std.specs.List.list_any (λ (other : Content). Rattle.std.specs.Prelude.bytes_eq other.key item.key) earlier))
    (has_own_numbers contents earlier item later) (ascend_from 0 0 item.runs) (is_kind_right item item.head.total)
    (nat_le (bytes_in item.runs) limits.max_entry) (has_right_head contents item)
  where
    by_parts : (t a b c d e f : Bool) → (t && a && b && c && d && e && f) ≡ (t && (a && b && (c && d && e && f)))
    by_parts true true true c d e f = refl
    by_parts true true false c d e f = refl
    by_parts true false b c d e f = refl
    by_parts false a b c d e f = refl

-- what a test of the rest told, and one of its key
pub good_by : (limits : Limits) (contents : Contents) (earlier : List Content) (item : Content) (later : List Content) (fit target : Bool) →
    fit ≡ is_fit limits contents earlier item later → fit ≡ true → target ≡ is_target item.key → target ≡ is_good limits contents earlier item later
good_by limits contents earlier item later fit target reports on key =
    key ∙ (and_true (is_target item.key) ∙ ap (λ b. is_target item.key && b) (sym on ∙ reports)) ∙ sym (good_is limits contents earlier item later)
  where
    and_true : (b : Bool) → b ≡ (b && true)
    and_true true = refl
    and_true false = refl

pub bad_by : (limits : Limits) (contents : Contents) (earlier : List Content) (item : Content) (later : List Content) (fit : Bool) →
    fit ≡ is_fit limits contents earlier item later → fit ≡ false → false ≡ is_good limits contents earlier item later
bad_by limits contents earlier item later fit reports off =
    and_false (is_target item.key) ∙ ap (λ b. is_target item.key && b) (sym off ∙ reports) ∙ sym (good_is limits contents earlier item later)
  where
    and_false : (b : Bool) → false ≡ (b && false)
    and_false true = refl
    and_false false = refl

-- COUNTING

drop_reported : (items : List coded.Content) (i : ℕ) (item : coded.Content) → i < length items → item ≡ get_or items i item →
    drop i (map plain_item items) ≡ plain_item item ∷ drop (suc i) (map plain_item items)
drop_reported [] i item lt is = absurd (let none : i < 0 = lt in omega arith)
drop_reported (x ∷ xs) zero item lt is = ap (λ (y : coded.Content). plain_item y ∷ map plain_item xs) (sym is)
drop_reported (x ∷ xs) (suc i) item lt is = drop_reported xs i item (omega arith) is

module _ (limits : Limits) (contents : Contents) (items : List coded.Content) where
  abbrev reported : List Content
  reported = map plain_item items

  abbrev before : ℕ → List Content
  before i = reverse (take i reported)

  -- so many are good, and those behind them that are
  pub record IsCounted (i : ℕ) : Type 0 where
    pub count : count_good limits contents [] reported ≡ i + count_good limits contents (before i) (drop i reported)

  pub none_counted : IsCounted 0
  none_counted = record { count = omega arith }

  module _ (i : ℕ) (item : coded.Content) (c : IsCounted i) (lt : i < length items) (is : item ≡ get_or items i item) where
    next : i + 1 ≡ suc i
    next = omega arith

    here : count_good limits contents [] reported ≡ i
        + (cond (is_good limits contents (before i) (plain_item item) (drop (i + 1) reported))
        (1 + count_good limits contents (plain_item item ∷ before i) (drop (i + 1) reported)) 0)
    here = c.count ∙ (ap (λ ys. i + count_good limits contents (before i) ys) (drop_reported items i item lt is) ∙
        ap (λ n. i + (cond (is_good limits contents (before i) (plain_item item) (drop n reported))
        (1 + count_good limits contents (plain_item item ∷ before i) (drop n reported)) 0)) (sym next))

    -- it is the first that isn't
    pub stops : is_good limits contents (before i) (plain_item item) (drop (i + 1) reported) ≡ false → i ≡ count_good limits contents [] reported
    stops off = let all : count_good limits contents [] reported ≡ i + 0 = here ∙
        ap (λ (b : Bool). i + (cond b (1 + count_good limits contents (plain_item item ∷ before i) (drop (i + 1) reported)) 0)) off in omega arith

    pub more_before : plain_item item ∷ before i ≡ before (i + 1)
    more_before = sym (ap before next ∙ (ap reverse (take_reported items i item lt is) ∙ reverse-append (take i reported) (plain_item item ∷ [])))

    -- with what a test of it told
    pub stopped : (result : Bool) → result ≡ false → result ≡ is_good limits contents (before i) (plain_item item) (drop (i + 1) reported) →
        i ≡ count_good limits contents [] reported
    stopped result off reports = stops (sym reports ∙ off)

    -- it is good too
    pub goes_on : is_good limits contents (before i) (plain_item item) (drop (i + 1) reported) ≡ true → IsCounted (i + 1)
    goes_on on =
        let all : count_good limits contents [] reported ≡ i + (1 + count_good limits contents (plain_item item ∷ before i) (drop (i + 1) reported)) =
        here ∙ ap (λ (b : Bool). i + (cond b (1 + count_good limits contents (plain_item item ∷ before i) (drop (i + 1) reported)) 0)) on in
        let same : count_good limits contents (plain_item item ∷ before i) (drop (i + 1) reported) ≡ count_good limits contents (before (i + 1))
        (drop (i + 1) reported) = ap (λ xs. count_good limits contents xs (drop (i + 1) reported)) more_before in
        record { count = omega arith }

-- ALL

-- all are good where none stops the count
good_to_end : (limits : Limits) (contents : Contents) (earlier items : List Content) →
    are_good limits contents earlier items ≡ nat_le (length items) (count_good limits contents earlier items)
good_to_end limits contents earlier [] = refl
good_to_end limits contents earlier (item ∷ later) =
    by_test (is_good limits contents earlier item later) (good_to_end limits contents (item ∷ earlier) later)
  where
    one_up : (n m : ℕ) → nat_le n m ≡ nat_le (suc n) (1 + m)
    one_up n m = grind (arith, nat_tests)

    none_up : (n : ℕ) → false ≡ nat_le (suc n) 0
    none_up n = grind (arith, nat_tests)

    by_test : (b : Bool) → are_good limits contents (item ∷ earlier) later ≡ nat_le (length later) (count_good limits contents (item ∷ earlier) later)
        → (b && are_good limits contents (item ∷ earlier) later) ≡ nat_le (suc (length later))
        (if b then 1 + count_good limits contents (item ∷ earlier) later else 0)
    by_test true rest = rest ∙ one_up (length later) (count_good limits contents (item ∷ earlier) later)
    by_test false rest = none_up (length later)

module _ (limits : Limits) (contents : Contents) (good : ℕ) (is : good ≡ count_good limits contents [] contents.items) where
  are_by : are_good limits contents [] contents.items ≡ nat_le (length contents.items) good
  are_by = good_to_end limits contents [] contents.items ∙ ap (nat_le (length contents.items)) (sym is)

  -- an item isn't good
  pub bad_item : good < length contents.items → Some (unfit.BadContent good) ≡ unfit_of limits contents
  unfolding unfit_of
  bad_item lt =
      let off : are_good limits contents [] contents.items ≡ false = are_by ∙ grind (arith, nat_tests) in
      rw off (ap (λ n. Some (unfit.BadContent n)) is)

  module _ (all : length contents.items ≤ good) where
    all_good : are_good limits contents [] contents.items ≡ true
    all_good = are_by ∙ grind (arith, nat_tests)

    -- the moment or a number is too large
    pub bad_number : false ≡ has_good_numbers contents → Some (unfit.BadContent good) ≡ unfit_of limits contents
    unfolding unfit_of
    bad_number off = let on = all_good in let no_one = sym off in rw (on, no_one) (ap (λ n. Some (unfit.BadContent n)) is)

    module _ (numbers : true ≡ has_good_numbers contents) where
      pub too_heavy : false ≡ nat_le (weights_of contents.items) limits.max_total → Some unfit.Full ≡ unfit_of limits contents
      unfolding unfit_of
      too_heavy off = let on = all_good in let those = sym numbers in let heavy = sym off in rw (on, those, heavy) refl

      pub all_fit : true ≡ nat_le (weights_of contents.items) limits.max_total → None ≡ unfit_of limits contents
      unfolding unfit_of
      all_fit light = let on = all_good in let those = sym numbers in let weight = sym light in rw (on, those, weight) refl

-- they fit where a store may begin with them
pub begins_by : (limits : Limits) (contents : Contents) (why : Option Unfit) → why ≡ unfit_of limits contents → is_none why ≡ may_begin limits contents
unfolding unfit_of may_begin
begins_by limits contents why is =
    ap is_none is ∙ by_tests (are_good limits contents [] contents.items) (nat_lt contents.now (2 ^ 62)) (nat_lt contents.last_consumer (2 ^ 62))
    (nat_lt 0 contents.next_exchange) (nat_le contents.next_exchange (2 ^ 60)) (nat_le (weights_of contents.items) limits.max_total)
    (unfit.BadContent (count_good limits contents [] contents.items))
  where
    by_tests : (a b c d e f : Bool) (bad : Unfit) →
        is_none (if a && (b && c && d && e) then (if f then None else Some unfit.Full) else Some bad) ≡ (a && b && c && d && e && f)
    by_tests false b c d e f bad = refl
    by_tests true false c d e f bad = refl
    by_tests true true false d e f bad = refl
    by_tests true true true false e f bad = refl
    by_tests true true true true false f bad = refl
    by_tests true true true true true true bad = refl
    by_tests true true true true true false bad = refl

-- as many as there are plain ones
pub longer : (items : List coded.Content) (i : ℕ) → i < length items → i < length (map plain_item items)
longer items i lt = let all : length (map plain_item items) ≡ length items = length-map items plain_item in omega arith
