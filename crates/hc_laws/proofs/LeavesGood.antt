-- A store may begin with what a run leaves.
--
-- What makes it good is known of every run, and stands together in `IsSettled`. An item is what an idle representation
-- comes to. Each condition on it follows from one of those laws: on its kind, its numbers and its head (`good_item`).
-- That no other item says its number has the most work (`own_numbers`). All items together weigh no more than what
-- fitted (`weights_fit`). `leaves_good` takes the laws of a run.
use Rattle.std.{proofs.{Common.{◌≡◌, ◌≢◌, inl, inr, ℕ, ◌+◌, ◌<◌, ◌≤◌, ◌^◌, List, [], ◌∷◌, length, Bool, true, false, Option, Some, None, refl, ap, sym, ◌∙◌, subst, arith}, lemmas.{Bool.Decides.{nat_tests}, List.Sums.{sum_by-cons}}}, specs.{Prelude.{is_some, nat_eq, nat_le, nat_lt, bytes_eq, ◌==◌, ◌&&◌, ◌||◌, not, filter, filter_map, reverse, option_map, if◌then◌else◌}, List.{list_any, sum_by}}}
use Rattle.hc_text.proofs.Basics.{or_right, both_true as and_both, and_left, and_right, bool_cases, not_some as none_some, some_inj}
use Rattle.hc_record.specs.declared.kind.Kind.TheVariants as kind
use Rattle.hc_rules.proofs.RangeReads.{same_bytes}
use Rattle.hc_effects.proofs.Vocabulary.{brings_part, weight_of, Limits, may_begin, are_good, is_good, is_given_out, has_own_numbers, is_own_run, says, is_kind_right, same_kind, kind_of_runs, ascend_from, needs_tag, is_whole, has_right_head, weights_of, runs_from, content_of, content_at, idle_now, contents_of, is_current, Content, Contents, family, covers, kind_of, brings_to, is_complete, covers_all, is_prefix, IsInLimits, AreOnce, HasByte, Origins, bound, is_written, Tables, Exchange, Representation, Sizes, Sound, Among, IsStored, StoredHeads, AreWithinLimits, IsOfOne, Tags, tables, bytes_in, last_end, KeysAreTargets}
use Rattle.hc_sparse.specs.{Cells.{Covers}, declared.run.Run.{Run}}
use Rattle.hc_model.specs.{Sound.{headed}, Contents.{is_idle}, Laws.{LeavesInRuns}}
use Rattle.hc_model.specs.Origins as origins
use Rattle.hc_model.specs.StoredHeads as heads
use Rattle.hc_effects.proofs.{Basics.{false_true}, HoleLemmas.{covers_yes}, ExclusiveWriters.{none_about}, PieceKeeps.{eq_cases}, PollKeeps.{current_stays}, Sums.{sum_le, sum_some, is_in, among_of, filter_among, filter_once, reverse_among, reverse_once}, Weighed.{fresh, held, held_is}}
use Rattle.hc_laws.proofs.{FitsKept.{Fits}, KindsLeft.{kind_by, kind_right, count_is, last_is}, OriginRuns.{origins_in_runs}, RunsFrom.{HasCell, is_of, of_cell, all_of, ascends}, SizesKeep.{sized_runs}, SoundRuns.{IsCarried, carried}, StoredHeadsKeep.{heads_in_runs, within_limits_in_runs}, TargetRuns.{keys_stay_targets}, TagRuns.{tags_in_runs}, Unknowns.{Unknown}, WaitsInRuns.{unknown_in_runs}}

not_by : (b : Bool) → b ≡ false → not b ≡ true
not_by b off = rw off refl

number_is : (o : Option ℕ) (n : ℕ) → Rattle.hc_model.specs.Currents.is_number o n ≡ true → o ≡ Some n
number_is None n h = absurd (false_true h)
number_is (Some m) n h = let same : m ≡ n = grind (arith, nat_tests) in ap Some same

is_empty : (xs : List ℕ) → (length xs == 0) ≡ true → xs ≡ []
is_empty [] h = refl
is_empty (x ∷ xs) h =
    let none : length (x ∷ xs) ≡ 0 = grind (arith, nat_tests) in
    absurd (omega arith)

-- all that makes what is left good
pub record IsSettled (limits : Limits) (t : Tables) : Type 0 where
  pub carried : IsCarried t
  pub unknown : Unknown t
  pub fits : Fits limits t
  pub origins : Origins t
  pub sizes : Sizes limits t
  pub heads : StoredHeads t
  pub within_limits : AreWithinLimits t
  pub targets : KeysAreTargets t
  pub tags : Tags t

module _ (limits : Limits) (t : Tables) (g : IsSettled limits t) where
  s : Sound t
  s = g.carried.is_sound

  abbrev left : Contents
  left = record { now = t.moment; last_consumer = t.last_start; next_exchange = t.opened + 1; items = filter_map (content_at t) (idle_now t) }

  -- a row that is left
  record IsIdle (r : ℕ) : Type 0 where
    v : Representation
    row : t.representation r ≡ Some v
    not_gone : v.is_gone ≡ false
    nobody : bound t r ≡ []

  idle_is : (r : ℕ) (z : Option Representation) → t.representation r ≡ z → is_idle t r z ≡ true → IsIdle r
  idle_is r None row h = absurd (false_true h)
  idle_is r (Some v) row h = record {
    v = v;
    row = row;
    not_gone = current_stays t v.key r v (number_is _ r (and_left (is_current t v.key r) (length (bound t r) == 0) h)) row;
    nobody = is_empty (bound t r) (and_right (is_current t v.key r) (length (bound t r) == 0) h);
  }

  -- ITS KIND

  module _ (r : ℕ) (i : IsIdle r) where
    abbrev v : Representation
    v = i.v

    abbrev item : Content
    item = content_of t r v

    store : IsStored v
    store = (s.rows r v i.row).store

    kept : v.is_lost ≡ false
    kept = by_test v.is_lost refl
      where
        by_test : (b : Bool) → v.is_lost ≡ b → v.is_lost ≡ false
        by_test false is = is
        by_test true is = absurd (false_true (sym i.not_gone ∙ store.lost_is_gone is))

    stored_is : (p : ℕ) → v.stored p ≡ v.body p
    stored_is p = store.all_stored kept p

    -- nobody writes it
    unwritten : is_written t v ≡ true → ⊥
    unwritten on = s.writes.has_bound r v i.row on i.nobody

    headed_not : (x : ℕ) (w : Exchange) → t.exchange x ≡ Some w → w.is_open ≡ true → family x w ≡ r → ⊥
    headed_not x w row on of_r = by_head w.head refl
      where
        by_head : (z : Option Rattle.hc_event.specs.declared.event.Response.Response) → w.head ≡ z → ⊥
        by_head (Some response) is = none_about t r x v s i.row i.nobody (headed w row on (ap is_some is) of_r (ap is_some i.row))
        by_head None is =
            let mine : x ≡ r = sym (ap (λ (z : Option ℕ). Rattle.std.specs.Prelude.unwrap_or z x) ((s.waits.headless x w row is).1)) ∙ of_r in
            none_some v (sym (s.numbered.names.unfounded x w row is) ∙ (ap t.representation mine ∙ i.row))

    not_growing : (xs : List ℕ) → list_any (λ x. brings_to r x (t.exchange x)) xs ≡ false
    not_growing [] = refl
    not_growing (x ∷ xs) = rw (by_row (t.exchange x) refl, not_growing xs) refl
      where
        by_row : (z : Option Exchange) → t.exchange x ≡ z → brings_to r x z ≡ false
        by_row None row = refl
        by_row (Some w) row = elim (bool_cases (w.is_open && family x w == r)) [
          | inr off ↦ off
          | inl on ↦ absurd (headed_not x w row (and_left w.is_open (family x w == r) on) (grind (arith, nat_tests)))
        ]

    -- its length is known
    known_by : (z : Option ℕ) → v.head.total ≡ z → (n : ℕ) × (v.head.total ≡ Some n)
    known_by None is = absurd (unwritten (g.unknown r v i.row i.not_gone is).written)
    known_by (Some n) is = (n, is)

    known : (n : ℕ) × (v.head.total ≡ Some n)
    known = known_by v.head.total refl

    abbrev length_is : ℕ
    length_is = known.0

    within : v.reach ≤ length_is
    within = g.carried.is_measured.within r length_is v i.row known.1

    ends : (p : ℕ) → v.reach ≤ p → v.stored p ≡ None
    ends p le = stored_is p ∙ store.ends p le

    tight : (m : ℕ) → v.reach ≡ m + 1 → is_some (v.stored m) ≡ true
    tight m is = ap is_some (stored_is m) ∙ g.carried.is_measured.tight r m v i.row is

    count : bytes_in item.runs ≡ v.size
    count = count_is v.stored v.reach length_is ends tight within ∙ sym (g.sizes.counted r v i.row)

    kind_is : kind_of t r v ≡ kind_by (covers v.stored v.reach 0 length_is) (nat_lt 0 v.size && covers v.stored v.reach 0 v.size)
    unfolding kind_of
    kind_is =
        ap (λ b. if b then kind.Growing else kind_by (is_complete v) (is_prefix v)) (not_growing t.openings)
        ∙ ap (λ b. kind_by b (is_prefix v)) (ap (covers_all v) known.1)

    kind_ok : is_kind_right item item.head.total ≡ true
    kind_ok = by_total item.head.total known.1
      where
        by_total : (z : Option ℕ) → z ≡ Some length_is → is_kind_right item z ≡ true
        by_total None is = absurd (none_some length_is is)
        by_total (Some n) is =
            let same : n ≡ length_is = some_inj n length_is is in
            let last : last_end item.runs ≡ v.reach = last_is v.stored v.reach length_is ends tight within in
            let most : v.reach ≤ length_is = within in
            let kinds : same_kind (kind_of t r v) (kind_of_runs item.runs length_is) ≡ true =
            ap (λ k. same_kind k (kind_of_runs item.runs length_is)) kind_is ∙ kind_right v.stored v.reach length_is ends tight within
            v.size (g.sizes.counted r v i.row) in
            and_both _ _ (let le : last_end item.runs ≤ n = omega arith in grind (arith, nat_tests))
            (ap (λ k. same_kind (kind_of t r v) (kind_of_runs item.runs k)) same ∙ kinds)

    -- ITS NUMBERS

    byte_of : (x : ℕ) → list_any (is_of x) item.runs ≡ true → HasByte t r x
    byte_of x any =
        let h : HasCell v.stored x = of_cell v.stored x 0 v.reach any in
        origins.has_byte h.p h.cell v i.row (sym (stored_is h.p) ∙ h.there) h.from

    given : (x : ℕ) → (0 < x) × (x ≤ t.opened) → is_given_out left x ≡ true
    given x range =
        let a : nat_lt 0 x ≡ true = grind (arith, nat_tests) in
        let b : nat_lt x (t.opened + 1) ≡ true = (let under : x < t.opened + 1 = omega arith in grind (arith, nat_tests)) in
        and_both _ _ a b

    in_range : (0 < r) × (r ≤ t.opened)
    in_range = (
      g.origins.founded r (ap is_some i.row),
      elim (bool_cases (nat_lt t.opened r)) [
        | inl past ↦ let over : t.opened < r = grind (arith, nat_tests) in absurd (none_some v (sym (s.numbered.lists.new_representations r over) ∙ i.row))
        | inr near ↦ grind (arith, nat_tests)
      ],
    )

    ascending : ascend_from 0 0 item.runs ≡ true
    ascending = ascends v.stored v.reach (λ x h. (g.origins.given_out r x (origins.has_byte h.p h.cell v i.row (sym (stored_is h.p) ∙ h.there) h.from)).0)

    -- ITS HEAD

    tag_needed : needs_tag item ≡ true → is_some v.head.joining ≡ true
    tag_needed h = by_tag v.head.joining refl
      where
        runs_own : (runs : List Run) → ((x : ℕ) → list_any (is_of x) runs ≡ true → x ≡ r) → list_any (λ (run : Run). not (run.x == r)) runs ≡ false
        runs_own [] own = refl
        runs_own (run ∷ runs) own =
            let self : nat_eq run.x run.x ≡ true = grind (arith, nat_tests) in
            let mine : run.x ≡ r = own run.x (rw self refl) in
            let test : nat_eq run.x r ≡ true = grind (arith, nat_tests) in
            rw test (runs_own runs (λ x any. own x (or_right (is_of x run) (list_any (is_of x) runs) any)))

        whole_kind : (n : ℕ) → v.head.total ≡ Some n → Covers v.stored 0 n → is_whole (kind_of t r v) ≡ true
        whole_kind n is covered =
            let same : n ≡ length_is = some_inj n length_is (sym is ∙ known.1) in
            let all : covers v.stored v.reach 0 length_is ≡ true =
            covers_yes v.stored v.reach 0 length_is ends (λ p lo hi. covered p lo (let up : p < length_is = hi in omega arith)) in
            ap is_whole kind_is ∙ rw all refl

        one_whole : IsOfOne t v → is_whole (kind_of t r v) ≡ true
        one_whole (heads.comes on status) = absurd (unwritten on)
        one_whole (heads.whole n is covered) = whole_kind n is covered

        by_tag : (z : Option (List ℕ)) → v.head.joining ≡ z → is_some v.head.joining ≡ true
        by_tag (Some opaque) is = ap is_some is
        by_tag None is =
            let whole : is_whole (kind_of t r v) ≡ true = one_whole (g.tags.one r v i.row i.not_gone is) in
            let full : brings_part v.head.status ≡ false = g.tags.parts r v i.row is in
            let own : list_any (λ (run : Run). not (run.x == r)) item.runs ≡ false = runs_own item.runs (λ x any. g.tags.own r x v i.row is (byte_of x any)) in
            absurd (false_true (sym (rw (whole, full, own) refl) ∙ h))

    head_ok : has_right_head left item ≡ true
    head_ok =
        let a : nat_le v.head.requested v.head.answered ≡ true = grind (arith, nat_tests) in
        let b : nat_le v.head.answered t.moment ≡ true = grind (arith, nat_tests) in
        rw (a, b, g.heads.lengths r v i.row, g.heads.ranges r v i.row, g.within_limits r v i.row) (by_need (needs_tag item) (is_some v.head.joining) tag_needed)
      where
        by_need : (a b : Bool) → (a ≡ true → b ≡ true) → ((not a || b) && true && true && true && true && true) ≡ true
        by_need false b h = refl
        by_need true b h = rw (h refl) refl

    small : nat_le (bytes_in item.runs) limits.max_entry ≡ true
    small =
        let most : v.size ≤ limits.max_entry = g.sizes.small r v i.row in
        let same : bytes_in item.runs ≡ v.size = count in
        let le : bytes_in item.runs ≤ limits.max_entry = omega arith in
        grind (arith, nat_tests)

    weighs : weight_of (bytes_in item.runs) ≡ held t r
    weighs = ap weight_of count ∙ sym (held_is t r v s i.row (fresh i.not_gone))

  -- OTHERS

  -- an item of another number
  record IsOther (r : ℕ) (a : Content) : Type 0 where
    q : ℕ
    idle : IsIdle q
    is : content_of t q idle.v ≡ a
    other : q ≢ r

  abbrev AllOther : ℕ → List Content → Type 0
  AllOther r [] = Unit {0}
  AllOther r (a ∷ items) = IsOther r a × AllOther r items

  none_of : (r : ℕ) (test : Content → Bool) (items : List Content) → AllOther r items → ((a : Content) → IsOther r a → test a ≡ false) →
      list_any test items ≡ false
  none_of r test [] all none = refl
  none_of r test (a ∷ items) all none = rw (none a all.0, none_of r test items all.1 none) refl

  module _ (r : ℕ) (i : IsIdle r) where
    other_key : (a : Content) → IsOther r a → bytes_eq a.key i.v.key ≡ false
    other_key a o = elim (bool_cases (bytes_eq a.key i.v.key)) [
      | inr off ↦ off
      | inl same ↦
          absurd (o.other (s.one_current o.q r o.idle.v i.v o.idle.row i.row o.idle.not_gone i.not_gone
          (ap (λ (z : Content). z.key) o.is ∙ same_bytes a.key i.v.key same)))
    ]

    -- says no number of r
    unsaid : (x : ℕ) (a : Content) (o : IsOther r a) → (x ≢ o.q) → (HasByte t o.q x → ⊥) → says x a ≡ false
    unsaid x a o apart none =
        subst (λ (z : Content). says x z ≡ false) o.is (by_parts (o.q == x) (list_any (is_of x) (runs_from o.idle.v.stored 0 o.idle.v.reach)) refl refl)
      where
        by_parts : (b c : Bool) → (o.q == x) ≡ b → list_any (is_of x) (runs_from o.idle.v.stored 0 o.idle.v.reach) ≡ c →
            ((o.q == x) || list_any (is_of x) (runs_from o.idle.v.stored 0 o.idle.v.reach)) ≡ false
        by_parts true c same any = let test : nat_eq o.q x ≡ true = same in let is : o.q ≡ x = grind (arith, nat_tests) in absurd (apart (sym is))
        by_parts false true same any = absurd (none (byte_of o.q o.idle x any))
        by_parts false false same any = rw (same, any) refl

    row_unsaid : (a : Content) → IsOther r a → says r a ≡ false
    row_unsaid a o = unsaid r a o (λ same. o.other (sym same)) (λ has. o.other (sym (g.origins.own o.q r has (ap is_some i.row))))

    run_unsaid : (x : ℕ) → HasByte t r x → (a : Content) → IsOther r a → says x a ≡ false
    run_unsaid x mine a o = unsaid x a o (λ same. o.other (sym same ∙ not_own same)) (λ has. o.other (g.origins.one o.q r x has mine))
      where
        not_own : x ≡ o.q → x ≡ r
        not_own same = g.origins.own r x mine (ap (λ n. is_some (t.representation n)) same ∙ ap is_some o.idle.row)

    not_numbered : (x : ℕ) → HasByte t r x → (a : Content) → IsOther r a → (a.r == x) ≡ false
    not_numbered x mine a o = elim (eq_cases a.r x) [
      | inr off ↦ off.0
      | inl here ↦
          let number : o.q ≡ x = ap (λ (z : Content). z.r) o.is ∙ here.1 in
          absurd (o.other (number ∙ g.origins.own r x mine (ap (λ n. is_some (t.representation n)) (sym number) ∙ ap is_some o.idle.row)))
    ]

    own_numbers : (earlier later : List Content) → AllOther r earlier → AllOther r later → has_own_numbers left earlier (item r i) later ≡ true
    own_numbers earlier later before after =
        and_both _ _
        (and_both _ _ (given r i r (in_range r i)) (not_by (list_any (says r) earlier) (none_of r (says r) earlier before row_unsaid)))
        (all_of (is_own_run left earlier r later) (item r i).runs (λ run any. by_run run.x (byte_of r i run.x any)))
      where
        by_run : (x : ℕ) → HasByte t r x →
            (is_given_out left x && not (list_any (says x) earlier) && (r == x || not (list_any (λ (other : Content). other.r == x) later))) ≡ true
        by_run x mine =
            and_both _ _
            (and_both _ _ (given r i x (g.origins.given_out r x mine))
            (not_by (list_any (says x) earlier) (none_of r (says x) earlier before (run_unsaid x mine))))
            (or_right (r == x) _ (not_by (list_any (λ (other : Content). other.r == x) later)
            (none_of r (λ (other : Content). other.r == x) later after (not_numbered x mine))))

    good_item : (earlier later : List Content) → AllOther r earlier → AllOther r later → is_good limits left earlier (item r i) later ≡ true
    good_item earlier later before after =
        and_both _ _ (and_both _ _ (and_both _ _ (and_both _ _ (and_both _ _ (and_both _ _
        (g.targets r i.v i.row)
        (not_by _ (none_of r (λ (other : Content). bytes_eq other.key i.v.key) earlier before other_key)))
        (own_numbers earlier later before after))
        (ascending r i))
        (kind_ok r i))
        (small r i))
        (head_ok r i)

  -- ALL OF THEM

  abbrev AllIdle : List ℕ → Type 0
  AllIdle [] = Unit {0}
  AllIdle (r ∷ rs) = IsIdle r × AllIdle rs

  -- each item is of one of these numbers
  others_of : (r : ℕ) (rs : List ℕ) → AllIdle rs → (Among r rs → ⊥) → AllOther r (filter_map (content_at t) rs)
  others_of r [] idle off = tt
  others_of r (q ∷ rs) idle off =
      let i = idle.0 in
      let made : content_at t q ≡ Some (content_of t q i.v) = ap (option_map (content_of t q)) i.row in
      rw made (record { q = q; idle = i; is = refl; other = λ same. off (inl same) }, others_of r rs idle.1 (λ among. off (inr among)))

  -- those before are of none of those to come
  abbrev BeforeAll : List Content → List ℕ → Type 0
  BeforeAll earlier rs = (r : ℕ) → Among r rs → AllOther r earlier

  all_good : (earlier : List Content) (rs : List ℕ) → AllIdle rs → AreOnce rs → BeforeAll earlier rs →
      are_good limits left earlier (filter_map (content_at t) rs) ≡ true
  all_good earlier [] idle once before = refl
  all_good earlier (r ∷ rs) idle once before =
      let i = idle.0 in
      let made : content_at t r ≡ Some (content_of t r i.v) = ap (option_map (content_of t r)) i.row in
      let first = good_item r i earlier (filter_map (content_at t) rs) (before r (inl refl)) (others_of r rs idle.1 once.0) in
      let rest = all_good (item r i ∷ earlier) rs idle.1 once.1
      (λ q among. (record { q = r; idle = i; is = refl; other = λ same. once.0 (subst (λ n. Among n rs) (sym same) among) }, before q (inr among))) in
      rw made (and_both _ _ first rest)

  -- what they weigh
  weights_is : (rs : List ℕ) → AllIdle rs → weights_of (filter_map (content_at t) rs) ≡ sum_by (held t) rs
  weights_is [] idle = refl
  weights_is (r ∷ rs) idle =
      let i = idle.0 in
      let made : content_at t r ≡ Some (content_of t r i.v) = ap (option_map (content_of t r)) i.row in
      let sum : weights_of (item r i ∷ filter_map (content_at t) rs) ≡ weight_of (bytes_in (item r i).runs) + weights_of (filter_map (content_at t) rs) =
      sum_by-cons (λ (a : Content). weight_of (bytes_in a.runs)) (item r i) (filter_map (content_at t) rs) in
      let all : sum_by (held t) (r ∷ rs) ≡ held t r + sum_by (held t) rs = sum_by-cons (held t) r rs in
      rw made (sum ∙ (plus (weight_of (bytes_in (item r i).runs)) (held t r) (weights_of (filter_map (content_at t) rs)) (sum_by (held t) rs) (weighs r i)
      (weights_is rs idle.1) ∙ sym all))
    where
      plus : (a b c d : ℕ) → a ≡ b → c ≡ d → a + c ≡ b + d
      plus a b c d p q = omega arith

  all_idle : (rs : List ℕ) → AllIdle (filter (λ r. is_idle t r (t.representation r)) rs)
  all_idle [] = tt
  all_idle (r ∷ rs) = elim (bool_cases (is_idle t r (t.representation r))) [
    | inl on ↦ rw on (idle_is r (t.representation r) refl on, all_idle rs)
    | inr off ↦ rw off (all_idle rs)
  ]

  once_idle : AreOnce (idle_now t)
  once_idle = filter_once (λ r. is_idle t r (t.representation r)) (reverse t.used) (reverse_once t.used g.fits.used_once)

  idle_founded : (r : ℕ) → Among r (idle_now t) → Among r t.founded
  idle_founded r among = g.fits.used_founded r (reverse_among r t.used (filter_among (λ q. is_idle t q (t.representation q)) r (reverse t.used) among).0)

  weights_fit : weights_of left.items ≤ limits.max_total
  weights_fit =
      let is : weights_of left.items ≡ sum_by (held t) (idle_now t) = weights_is (idle_now t) (all_idle (reverse t.used)) in
      let some : sum_by (held t) (idle_now t) ≤ sum_by (among_of (held t) (idle_now t)) t.founded =
      sum_some (held t) (idle_now t) t.founded once_idle idle_founded in
      let most : sum_by (among_of (held t) (idle_now t)) t.founded ≤ sum_by (held t) t.founded =
      sum_le (among_of (held t) (idle_now t)) (held t) t.founded (λ r among. by_test r (is_in (idle_now t) r)) in
      omega arith
    where
      by_test : (r : ℕ) (b : Bool) → (if b then held t r else 0) ≤ held t r
      by_test r true = omega arith
      by_test r false = omega arith

  pub may_begin_again : IsInLimits t → may_begin limits (contents_of t) ≡ true
  unfolding may_begin contents_of
  may_begin_again in_limits =
      let a : t.moment < 2 ^ 62 = in_limits.moment in
      let b : t.last_start < 2 ^ 62 = in_limits.consumers in
      let c : t.opened < 2 ^ 60 = in_limits.exchanges in
      let w : weights_of left.items ≤ limits.max_total = weights_fit in
      and_both _ _ (and_both _ _ (and_both _ _ (and_both _ _ (and_both _ _
      (all_good [] (idle_now t) (all_idle (reverse t.used)) once_idle (λ r among. tt))
      (let test : nat_lt t.moment (2 ^ 62) ≡ true = grind (arith, nat_tests) in test))
      (let test : nat_lt t.last_start (2 ^ 62) ≡ true = grind (arith, nat_tests) in test))
      (let test : nat_lt 0 (t.opened + 1) ≡ true = (let some : 0 < t.opened + 1 = omega arith in grind (arith, nat_tests)) in test))
      (let test : nat_le (t.opened + 1) (2 ^ 60) ≡ true = (let most : t.opened + 1 ≤ 2 ^ 60 = omega arith in grind (arith, nat_tests)) in test))
      (let test : nat_le (weights_of left.items) limits.max_total ≡ true = grind (arith, nat_tests) in test)

-- A store may begin with what a run leaves.
pub leaves_good : LeavesInRuns
leaves_good limits contents may h run within_limits starts in_limits =
    let sized = sized_runs limits contents h may run in
    may_begin_again limits (tables contents h) (record {
      carried = carried limits contents h may run;
      unknown = unknown_in_runs limits contents h may run;
      fits = sized.fits;
      origins = origins_in_runs limits contents h may run;
      sizes = sized.sizes;
      heads = heads_in_runs limits contents h may run;
      within_limits = within_limits_in_runs limits contents h may within_limits;
      targets = keys_stay_targets limits contents h may run starts;
      tags = tags_in_runs limits contents h may run;
    }) in_limits
