-- Who has no reason to start over stays on: nothing that it waits for is lost, its key isn't doomed while it waits, and
-- no head sends it back.
use Rattle.std.{proofs.{lemmas.Bool.Decides.{nat_tests}, Common.{arith, ◌≡◌, inl, inr, ℕ, Bool, true, false, Option, Some, refl}}, specs.Prelude.{◌&&◌, if◌then◌else◌}}
use Rattle.hc_text.proofs.Basics.{and_left, and_right, never_true, or_cases}
use Rattle.hc_effects.proofs.Vocabulary.{Opening, Showing, Wait, Place, by_opening, shown_place, case_at, consumer_settled, waiting_place, due_after, doomed_key_of, is_key, Entry, exchange_at, is_for, IsAwaiting, Tables, Exchange, Consumer, starts_over, waits_at, sends_back, loses_what_it_waits_for, wait}
use Rattle.hc_event.specs.declared.place.Place.TheVariants as place
use Rattle.hc_effects.proofs.WaitedAs.{IsForOthers}
use Rattle.hc_effects.proofs.WaitedAs as waited

module _ (t : Tables) (e : Entry) (c : ℕ) where
  pub stays_by : (k : Consumer) → (loses_what_it_waits_for t e c k.place ≡ true → ⊥) →
      (is_key (doomed_key_of t e) k.request.key ≡ true → waits_at t k.place ≡ true → ⊥)
      → (sends_back (case_at t e) ≡ true → is_for (exchange_at t e.event) c ≡ true → ⊥) → starts_over t e c k ≡ false
  unfolding starts_over
  stays_by k kept undoomed unsent = never_true _ (λ over. elim (or_cases _ (loses_what_it_waits_for t e c k.place) over) [
    | inr lost ↦ kept lost
    | inl more ↦ elim (or_cases (is_key (doomed_key_of t e) k.request.key && waits_at t k.place)
        (sends_back (case_at t e) && is_for (exchange_at t e.event) c) more) [
          | inl doom ↦ undoomed (and_left _ _ doom) (and_right _ _ doom)
          | inr back ↦ unsent (and_left _ _ back) (and_right _ _ back)
        ]
  ])

  -- its row after the step is what the acts make of it
  pub settled : (k q : Consumer) → starts_over t e c k ≡ false → consumer_settled t e c k q ≡ due_after t e c k q
  settled k q off = rw off refl

  -- who waits for a head or its body was let through by nobody that it could lose
  pub awaiting_keeps : (x : ℕ) (w : Exchange) (p : Place) → IsAwaiting x w p → loses_what_it_waits_for t e c p ≡ true → ⊥
  awaiting_keeps x w p it3 h = grind (arith, nat_tests)

  -- it opens nothing
  pub unopened : (q : Consumer) (z : Option Opening) → ((p : Opening) → z ≡ Some p → p.c ≡ c → ⊥) → by_opening t c z q ≡ q
  unopened q z other = grind (arith, nat_tests)

  -- nor leaves, nor is moved by a wait or a showing: it stands where it stood
  pub plain_place : (h : Consumer) (leaves : Bool) (shows : Option Showing) (opens : Option Opening) (waits : Option Wait) → leaves ≡ false →
      by_opening t c opens (record h { place = waiting_place t h waits }) ≡ record h { place = waiting_place t h waits } →
      waiting_place t h waits ≡ h.place → shown_place c shows h.place ≡ h.place
      → (if leaves then place.Over else shown_place c shows (by_opening t c opens (record h { place = waiting_place t h waits })).place) ≡ h.place
  plain_place h leaves shows opens waits stay none unmoved unshown = grind (arith, nat_tests)

-- who isn't told to wait for others waits where it stands
pub waits_where : (t : Tables) (k : Consumer) (z : Option Wait) → ((w : Wait) → IsForOthers w → z ≡ Some w → ⊥) → waiting_place t k z ≡ k.place
waits_where t k (Some (wait.Turn d)) reported_not = absurd (reported_not (wait.Turn d) (waited.turn d) refl)
waits_where t k (Some (wait.Busy d)) reported_not = absurd (reported_not (wait.Busy d) (waited.busy d) refl)
waits_where t k _ reported_not = refl
