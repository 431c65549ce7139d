-- What gives way to a piece is what is idle before it, and what the piece is of isn't among that.
--
-- A piece lets nothing go by itself. So the same is idle at the piece as now, and weighs as much: the room is the same
-- (`room_same`, `gives_same`). What an open exchange brings is read by somebody, so it isn't idle (`spared`). That room
-- may be made is a fact of the run (`may_make_room`). Where the store took the bytes there was room, since they fit the
-- limits (`room_there`). `StoreHandler`, `GrowHandler` and `FoundHandler` use these.
use Rattle.std.{proofs.{Common.{◌≡◌, ◌≢◌, inl, inr, ℕ, zero, suc, ◌+◌, ◌≤◌, List, [], ◌∷◌, length, take, Bool, true, false, Option, Some, None, refl, ap, sym, ◌∙◌, arith}, lemmas.Bool.Decides.{nat_tests}}, specs.{Prelude.{is_some, nat_eq, nat_lt, filter, map, reverse, not, ◌==◌, ◌&&◌, ◌||◌, if◌then◌else◌}, List.{sum_by}}}
use mathlib.Core.Path.{fun_ext}
use Rattle.hc_text.proofs.Basics.{and_true, eqb-other, false_true, or_off_left as or_first, same_or, and_off as then_false}
use Rattle.hc_effects.proofs.Vocabulary.{event, room, write, Limits, Room, Write, room_of, weight_of, idle_now, is_current, denial, Entry, entry_without_acts, outlasts, outlasts_row, family, NoFlaw, goes_itself, becomes_gone, Lawful, MayMakeRoom, weight_now, room_now, giving_way, bound, Tables, Exchange, Representation, has_room, weight, idle, evicted, room_for, room_by, write_in, stays_bound}
use Rattle.hc_model.specs.Contents as contents
use Rattle.hc_model.specs.LettingGo as going
use Rattle.hc_model.specs.Sound as sound
use Rattle.hc_model.specs.Weights as weights
use Rattle.hc_effects.proofs.{IdleNow.{idle_but_gone, bound_is}, LettingGo.{may_let_go}, SameTables.{is_in}, Tests.{none_some}, PieceEffects.{piece_goes}}
use Rattle.hc_rules.proofs.RoomFolds.{none_gives_way}
use Rattle.hc_state.specs.Facts.{Facts}

-- LISTS

all_pass : (f : ℕ → Bool) (xs : List ℕ) → ((n : ℕ) → f n ≡ true) → filter f xs ≡ xs
all_pass f [] on = refl
all_pass f (x ∷ xs) on = rw (on x, all_pass f xs on) refl

not_filtered : (f : ℕ → Bool) (n : ℕ) (xs : List ℕ) → f n ≡ false → is_in (filter f xs) n ≡ false
not_filtered f n [] off = refl
not_filtered f n (x ∷ xs) off = by_test (f x) refl (not_filtered f n xs off)
  where
    by_test : (b : Bool) → f x ≡ b → is_in (filter f xs) n ≡ false → is_in (filter f (x ∷ xs)) n ≡ false
    by_test false fails rest = rw fails rest
    by_test true passes rest = elim (same_or x n) [
      | inl e ↦ false_true (sym off ∙ (ap f (sym e) ∙ passes))
      | inr ne ↦ rw (passes, eqb-other x n ne) rest
    ]

not_taken : (count n : ℕ) (xs : List ℕ) → is_in xs n ≡ false → is_in (take count xs) n ≡ false
not_taken zero n xs off = grind (arith, nat_tests)
not_taken (suc count) n [] off = refl
not_taken (suc count) n (x ∷ xs) off = by_tests (nat_eq x n) (is_in xs n) refl refl (λ rest. not_taken count n xs rest)
  where
    by_tests : (a b : Bool) → nat_eq x n ≡ a → is_in xs n ≡ b → (is_in xs n ≡ false → is_in (take count xs) n ≡ false) → is_in
        (take (suc count) (x ∷ xs)) n ≡ false
    by_tests true b same rest further = false_true (sym off ∙ rw same refl)
    by_tests false true other rest further = false_true (sym off ∙ rw (other, rest) refl)
    by_tests false false other rest further = rw other (further rest)

some_list : (xs : List ℕ) → xs ≢ [] → nat_eq (length xs) 0 ≡ false
some_list [] some = absurd (some refl)
some_list (x ∷ xs) some = grind (arith, nat_tests)

-- WHAT THE RUN ALLOWS

pub may_make_room : {limits : Limits} (t : Tables) → Facts limits t → MayMakeRoom t
may_make_room t facts = assumption (facts.law.order, facts, may_let_go t facts.law)

-- WHAT GIVES WAY

module _ (limits : Limits) (t : Tables) (law : Lawful t) (now x : ℕ) (bytes : List ℕ) (goes : denial t (event.Piece x bytes) ≡ None) (w : Exchange)
    (row : t.exchange x ≡ Some w) where
  abbrev e : Entry
  e = entry_without_acts now (event.Piece x bytes)

  -- a piece lets nothing go by itself
  stays : (q : ℕ) (p : Representation) → goes_itself t e q p ≡ false
  unfolding becomes_gone
  stays q p = or_first (goes_itself t e q p) _ (piece_goes limits t law now x bytes w row NoFlaw [] q p (λ on. false_true on))

  weight_same : (q : ℕ) → weight t e q ≡ weight_now t q
  weight_same q = by_row (t.representation q)
    where
      by_row : (o : Option Representation) → weights.weight_in t e q o ≡ going.weight_in t q o
      by_row None = refl
      by_row (Some p) =
          let current_is : (is_current t p.key q && not (goes_itself t e q p)) ≡ is_current t p.key q =
          ap (λ b. is_current t p.key q && not b) (stays q p) ∙ and_true (is_current t p.key q) in
          let bound_so : stays_bound t e q ≡ not (length (bound t q) == 0) = bound_is t now (event.Piece x bytes) law.sound law.owned goes q p (stays q p) in
          ap (λ b. if b || stays_bound t e q then weight_of p.size else 0) current_is ∙
          ap (λ b. if is_current t p.key q || b then weight_of p.size else 0) bound_so

  idle_same : idle t e ≡ idle_now t
  idle_same = idle_but_gone t now (event.Piece x bytes) law.sound law.owned goes ∙ all_pass (outlasts t e) (idle_now t) (λ q. by_row q (t.representation q))
    where
      by_row : (q : ℕ) (o : Option Representation) → outlasts_row t e q o ≡ true
      by_row q None = refl
      by_row q (Some p) = ap not (stays q p)

  module _ (v : Representation) (there : t.representation (family x w) ≡ Some v) (fresh : v.is_lost ≡ false) where
    abbrev pub wrote : Write
    wrote = write.Piece v.size (length bytes)

    pub room_same : room_for limits t now (event.Piece x bytes) ≡ room_now limits t wrote
    unfolding room_for
    room_same = grind (arith, nat_tests, wrote, idle, weight_same, idle_same)

    firsts_same : (a : Room) → weights.first_idle t e a ≡ going.first_idle t a
    firsts_same (room.After count) = ap (take count) idle_same
    firsts_same _ = refl

    pub gives_same : evicted limits t now (event.Piece x bytes) ≡ giving_way limits t wrote
    gives_same = ap (weights.first_idle t e) room_same ∙ firsts_same (room_now limits t wrote)

    -- who reads it keeps it
    pub spared : w.is_open ≡ true → is_some w.head ≡ true → is_in (giving_way limits t wrote) (family x w) ≡ false
    spared opened headed = by_room (room_now limits t wrote)
      where
        some_bound : bound t (family x w) ≢ []
        some_bound none = law.whose.unread (family x w) x v there none
            (sound.headed w row opened headed refl (ap (λ (o : Option Representation). is_some o) there))

        busy : contents.is_idle t (family x w) (t.representation (family x w)) ≡ false
        busy = ap (contents.is_idle t (family x w)) there ∙
            then_false (is_current t v.key (family x w)) (length (bound t (family x w)) == 0) (some_list (bound t (family x w)) some_bound)

        by_room : (a : Room) → is_in (going.first_idle t a) (family x w) ≡ false
        by_room (room.After count) =
            not_taken count (family x w) (idle_now t) (not_filtered (λ q. contents.is_idle t q (t.representation q)) (family x w) (reverse t.used) busy)
        by_room _ = refl

-- WHERE THE STORE TOOK IT

-- there was room, where the write is within the limits
pub room_there : (limits : Limits) (sum size n : ℕ) (ws : List ℕ) → size + n ≤ limits.max_entry →
    (room_of limits sum (write.Piece size n) ws ≡ room.Full → sum + n ≤ limits.max_total) → has_room (room_of limits sum (write.Piece size n) ws) ≡ true
unfolding room_of
room_there limits sum size n ws small full = grind (arith, nat_tests, none_some, none_gives_way)
