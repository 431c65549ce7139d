-- The writer group is told where its members stand, one after another.
--
-- Each call puts one member where its transaction stands, if it has one, and leaves every other (`placed_next`). So once
-- the first ones of those who are bound were told, the group is what `reported_among` says of these (`reported_next`,
-- `reported_skips`). `report_offsets` uses both in its loop.
use Rattle.std.{proofs.{Common.{◌≡◌, ℕ, ◌+◌, ◌-◌, ◌<◌, ◌^◌, List, [], ◌∷◌, ◌++◌, length, take, get_or, Bool, true, false, Option, Some, None, refl, ap, ap₂, sym, ◌∙◌, arith}, lemmas.{Bool.Decides.{nat_tests}, List.{take_more, Folds.{list_any-append}}}}, specs.{Prelude.{nat_eq, map, min, option_map, ◌||◌, if◌then◌else◌}, HashMap.{get}}}
use Rattle.hc_text.proofs.Basics.{false_true}
use Rattle.hc_effects.proofs.Tests.{none_some}
use Rattle.hc_rules.specs.declared.survivor.Member.{Member}
use Rattle.hc_text.specs.Sorted.{has, with_replacement, itself}
use Rattle.hc_store.specs.declared.backend.Backend.{Ghosts}
use Rattle.hc_entry.specs.Used.{moved_if_member}
use Rattle.hc_stored.specs.{declared.entries.Entries.{Entries}, Entries.{shelf_of}, Grouped.{group_of}, Shelf.{Stays}, Views.{bound_in}}
use Rattle.hc_state.specs.Changes.{Numbered}
use Rattle.hc_txn.specs.declared.transaction.Transaction.{Transaction}
use Rattle.hc_writers.specs.Group.{Group, consumer_of, is_member, moved_to, standing_at}
use Rattle.hc_on_leave.specs.Reporting.{placed, placed_among, reported_among}
use Rattle.hc_on_leave.proofs.LoseDetachedReaders.{reported_number}

module _ (consumers : Numbered Transaction) (c : ℕ) (cs : List ℕ) where
  -- one more is told
  has_next : (n : ℕ) → has itself n (cs ++ (c ∷ [])) ≡ (has itself n cs || nat_eq c n)
  has_next n = list_any-append (λ d. nat_eq d n) cs (c ∷ []) ∙ ap (λ (b : Bool). has itself n cs || b) (or_false (nat_eq c n))
    where
      or_false : (b : Bool) → (b || false) ≡ b
      or_false true = refl
      or_false false = refl

  others : (m : Member) → nat_eq c m.c ≡ false → placed_among consumers (cs ++ (c ∷ [])) m ≡ placed_among consumers cs m
  others m off = ap (λ (b : Bool). if b then placed m (get nat_eq consumers m.c) else m) (has_next m.c ∙ by_rest (has itself m.c cs))
    where
      by_rest : (b : Bool) → (b || nat_eq c m.c) ≡ b
      by_rest true = refl
      by_rest false = off

  it : (m : Member) → nat_eq c m.c ≡ true → placed_among consumers (cs ++ (c ∷ [])) m ≡ placed m (get nat_eq consumers m.c)
  it m on = ap (λ (b : Bool). if b then placed m (get nat_eq consumers m.c) else m) (has_next m.c ∙ by_rest (has itself m.c cs))
    where
      by_rest : (b : Bool) → (b || nat_eq c m.c) ≡ true
      by_rest true = refl
      by_rest false = on

  same_number : (m : Member) → nat_eq c m.c ≡ true → c ≡ m.c
  same_number m on = grind (arith, nat_tests, on)

  turned : (a b : ℕ) → nat_eq a b ≡ nat_eq b a
  turned a b = grind (arith, nat_tests)

  -- WHO IS LIVE

  module _ (k : Transaction) (p : ℕ) (at : get nat_eq consumers c ≡ Some k) (stands : p ≡ min (k.lo + k.given) (2 ^ 64 - 1)) where
    placed_next : (m : Member) →
        (if nat_eq (placed_among consumers cs m).c c then standing_at c p else placed_among consumers cs m) ≡ placed_among consumers (cs ++ (c ∷ [])) m
    placed_next m = by_test (nat_eq c m.c) refl
      where
        chosen : Bool → Member
        chosen b = if b then standing_at c p else placed_among consumers cs m

        test_is : nat_eq (placed_among consumers cs m).c c ≡ nat_eq c m.c
        test_is = ap (λ (n : ℕ). nat_eq n c) (reported_number consumers cs m) ∙ turned m.c c

        by_test : (b : Bool) → nat_eq c m.c ≡ b →
            (if nat_eq (placed_among consumers cs m).c c then standing_at c p else placed_among consumers cs m) ≡ placed_among consumers (cs ++ (c ∷ [])) m
        by_test true on =
            let one : c ≡ m.c = same_number m on in
            let here : get nat_eq consumers m.c ≡ Some k = ap (get nat_eq consumers) (sym one) ∙ at in
            ap chosen (test_is ∙ on) ∙ (ap₂ standing_at one stands ∙ (sym (ap (placed m) here) ∙ sym (it m on)))
        by_test false off = ap chosen (test_is ∙ off) ∙ sym (others m off)

    each_next : (ms : List Member) →
        with_replacement consumer_of (standing_at c p) (map (placed_among consumers cs) ms) ≡ map (placed_among consumers (cs ++ (c ∷ []))) ms
    each_next [] = refl
    each_next (m ∷ ms) = ap₂ (λ (n : Member) (ns : List Member). n ∷ ns) (placed_next m) (each_next ms)

    absent_stays : (ms : List Member) → has consumer_of c ms ≡ false → with_replacement consumer_of (standing_at c p) ms ≡ ms
    absent_stays [] off = refl
    absent_stays (m ∷ ms) off = by_test (nat_eq m.c c) refl off (absent_stays ms)
      where
        by_test : (b : Bool) → nat_eq m.c c ≡ b → (nat_eq m.c c || has consumer_of c ms) ≡ false →
            (has consumer_of c ms ≡ false → with_replacement consumer_of (standing_at c p) ms ≡ ms) →
            with_replacement consumer_of (standing_at c p) (m ∷ ms) ≡ m ∷ ms
        by_test true on none later = false_true (sym none ∙ ap (λ (b : Bool). b || has consumer_of c ms) on)
        by_test false here none later =
            ap₂ (λ (n : Member) (ns : List Member). n ∷ ns) (ap (λ (b : Bool). if b then standing_at c p else m) here)
            (later (sym (ap (λ (b : Bool). b || has consumer_of c ms) here) ∙ none))

    member_next : (w : Group) → moved_if_member c p (reported_among consumers cs w) ≡ reported_among consumers (cs ++ (c ∷ [])) w
    member_next w = by_test (is_member c (reported_among consumers cs w)) refl
      where
        reported : Bool → Group
        reported b = if b then moved_to c p (reported_among consumers cs w) else reported_among consumers cs w

        by_test : (b : Bool) → is_member c (reported_among consumers cs w) ≡ b →
            moved_if_member c p (reported_among consumers cs w) ≡ reported_among consumers (cs ++ (c ∷ [])) w
        by_test true on = ap reported on ∙ ap (λ (ms : List Member). record w { members = ms }) (each_next w.members)
        by_test false off = ap reported off ∙
            ap (λ (ms : List Member). record w { members = ms }) (sym (absent_stays (map (placed_among consumers cs) w.members) off) ∙ each_next w.members)

    pub some_next : (o : Option Group) →
        option_map (moved_if_member c p) (option_map (reported_among consumers cs) o) ≡ option_map (reported_among consumers (cs ++ (c ∷ []))) o
    some_next None = refl
    some_next (Some w) = ap Some (member_next w)

  -- WHO ISN'T

  module _ (gone : get nat_eq consumers c ≡ None) where
    kept_next : (m : Member) → placed_among consumers cs m ≡ placed_among consumers (cs ++ (c ∷ [])) m
    kept_next m = by_test (nat_eq c m.c) refl
      where
        by_test : (b : Bool) → nat_eq c m.c ≡ b → placed_among consumers cs m ≡ placed_among consumers (cs ++ (c ∷ [])) m
        by_test true on =
            let here : get nat_eq consumers m.c ≡ None = ap (get nat_eq consumers) (sym (same_number m on)) ∙ gone in
            by_rest (has itself m.c cs) (get nat_eq consumers m.c) here ∙ sym (it m on ∙ ap (placed m) here)
          where
            by_rest : (b : Bool) (o : Option Transaction) → o ≡ None → (if b then placed m o else m) ≡ m
            by_rest true None is = refl
            by_rest true (Some k) is = none_some k (sym is)
            by_rest false o is = refl
        by_test false off = sym (others m off)

    kept_each : (ms : List Member) → map (placed_among consumers cs) ms ≡ map (placed_among consumers (cs ++ (c ∷ []))) ms
    kept_each [] = refl
    kept_each (m ∷ ms) = ap₂ (λ (n : Member) (ns : List Member). n ∷ ns) (kept_next m) (kept_each ms)

    pub none_next : (o : Option Group) → option_map (reported_among consumers cs) o ≡ option_map (reported_among consumers (cs ++ (c ∷ []))) o
    none_next None = refl
    none_next (Some w) = ap (λ (ms : List Member). Some (record w { members = ms })) (kept_each w.members)

-- IN THE LOOP

-- the first ones of those who are bound were told
pub record ReportedSoFar {B : Type 0} {g : Ghosts B} (old new : Entries B g) (consumers : Numbered Transaction) (r i : ℕ) : Type 0 where
  pub stays : Stays (shelf_of old) (shelf_of new)
  pub faults : (shelf_of new).faults ≡ (shelf_of old).faults
  pub reported : group_of new r ≡ option_map (reported_among consumers (take i (bound_in ((shelf_of old).kept r)))) (group_of old r)

module _ {B : Type 0} {g : Ghosts B} (old : Entries B g) (consumers : Numbered Transaction) (r : ℕ) where
  abbrev bound : List ℕ
  bound = bound_in ((shelf_of old).kept r)

  none_each : (ms : List Member) → map (placed_among consumers []) ms ≡ ms
  none_each [] = refl
  none_each (m ∷ ms) = ap (λ (ns : List Member). m ∷ ns) (none_each ms)

  none_reported : (o : Option Group) → o ≡ option_map (reported_among consumers []) o
  none_reported None = refl
  none_reported (Some w) = ap (λ (ms : List Member). Some (record w { members = ms })) (sym (none_each w.members))

  pub reported_none : ReportedSoFar old old consumers r 0
  reported_none = record {
    stays = record { kept = λ q. refl; order = refl; used = refl; limits = refl };
    faults = refl;
    reported = none_reported (group_of old r);
  }

  module _ (i d : ℕ) (mid new : Entries B g) (within : i < length bound) (before : ReportedSoFar old mid consumers r i)
      (stays : Stays (shelf_of mid) (shelf_of new)) (faults : (shelf_of new).faults ≡ (shelf_of mid).faults) where
    again : Stays (shelf_of old) (shelf_of new)
    again = record {
      kept = λ q. stays.kept q ∙ before.stays.kept q;
      order = stays.order ∙ before.stays.order;
      used = stays.used ∙ before.stays.used;
      limits = stays.limits ∙ before.stays.limits;
    }

    more : List ℕ
    more = take (i + 1) bound

    pub reported_next : (k : Transaction) (p : ℕ) → get nat_eq consumers (get_or bound i d) ≡ Some k → p ≡ min (k.lo + k.given) (2 ^ 64 - 1) →
        group_of new r ≡ option_map (moved_if_member (get_or bound i d) p) (group_of mid r) → ReportedSoFar old new consumers r (i + 1)
    reported_next k p at stands is = record {
      stays = again;
      faults = faults ∙ before.faults;
      reported =
          is ∙ (ap (option_map (moved_if_member (get_or bound i d) p)) before.reported
          ∙ (some_next consumers (get_or bound i d) (take i bound) k p at stands (group_of old r)
          ∙ ap (λ (cs : List ℕ). option_map (reported_among consumers cs) (group_of old r)) (sym (take_more bound i d within))));
    }

  pub reported_skips : (i d : ℕ) (mid : Entries B g) → i < length bound → ReportedSoFar old mid consumers r i →
      get nat_eq consumers (get_or bound i d) ≡ None → ReportedSoFar old mid consumers r (i + 1)
  reported_skips i d mid within before gone = record {
    stays = before.stays;
    faults = before.faults;
    reported =
        before.reported
        ∙ (none_next consumers (get_or bound i d) (take i bound) gone (group_of old r)
        ∙ ap (λ (cs : List ℕ). option_map (reported_among consumers cs) (group_of old r)) (sym (take_more bound i d within)));
  }
