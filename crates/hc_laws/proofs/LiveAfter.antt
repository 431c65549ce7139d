-- Who is live behind an entry.
--
-- Who is over stays so, in every run (`stays_over` of hc_laws). So who is live behind an entry was live before it, or
-- starts by it.
use Rattle.std.{proofs.{Common.{◌≡◌, ◌⊎◌, ℕ, Bool, true, false, Option, Some, None, refl, ap, ◌∙◌, arith}, lemmas.Bool.Decides.{nat_tests}}, specs.Prelude.{nat_eq, if◌then◌else◌}}
use Rattle.hc_effects.proofs.Vocabulary.{is_denied, Event, Place, Limits, accepted_acts, consumer_after, consumer_made, new_consumer, is_live, is_live_place, Entry, flaw_in, Lawful, Tables, Consumer, IsOwed, after, after_accepted, after_denied, place}
use Rattle.hc_event.specs.declared.event.Event.TheVariants as event
use Rattle.hc_effects.proofs.{Owed.{goes, acts_are}, Step.{step_of}}
use Rattle.hc_laws.proofs.LiveRuns.{stays_over}

-- the consumer starts by the event
abbrev pub Starts : ℕ → Event → Type 0
Starts c (event.Start d request) = d ≡ c
Starts c _ = ⊥

-- the rows behind an entry: as they were, or as an accepted one leaves them
pub consumer_behind : (t : Tables) (e : Entry) (c : ℕ) →
    ((after t e).consumer c ≡ t.consumer c) ⊎ ((is_denied e.acts ≡ false) × ((after t e).consumer c ≡ consumer_after t e c (t.consumer c)))
unfolding after
consumer_behind t e c = by_test (is_denied e.acts) refl
  where
    by_test : (b : Bool) → is_denied e.acts ≡ b →
        ((if b then after_denied t e else after_accepted t e).consumer c ≡ t.consumer c) ⊎
        ((is_denied e.acts ≡ false) × ((if b then after_denied t e else after_accepted t e).consumer c ≡ consumer_after t e c (t.consumer c)))
    by_test b is = grind (arith, nat_tests)

made_live : (c now : ℕ) (ev : Event) → is_live (consumer_made c now ev) ≡ true → Starts c ev
made_live c now (event.Start d request) h = by_test (nat_eq d c) refl h
  where
    by_test : (b : Bool) → nat_eq d c ≡ b → is_live (if b then Some (new_consumer now request) else None) ≡ true → d ≡ c
    by_test b is g = grind (arith, nat_tests)
made_live c now _ h = absurd (let never : false ≡ true = h in cc)

over_or_live : (p : Place) → (p ≡ place.Over) ⊎ (is_live_place p ≡ true)
over_or_live p = grind (arith, nat_tests)

module _ (limits : Limits) (t : Tables) (e : Entry) (law : Lawful t) (is : IsOwed limits t e) where
  -- an accepted entry is that of its event
  entry_is : is_denied e.acts ≡ false → e ≡ record { now = e.now; event = e.event; acts = accepted_acts limits t e.now e.event (flaw_in e.acts) }
  entry_is goes_on = ap (λ acts. record { now = e.now; event = e.event; acts = acts }) (acts_are limits t e is goes_on)

  pub dead_stays : (c : ℕ) (k : Consumer) → is_denied e.acts ≡ false → t.consumer c ≡ Some k → k.place ≡ place.Over →
      is_live (consumer_after t e c (t.consumer c)) ≡ false
  dead_stays c k on row over =
      ap (λ (z : Entry). is_live (consumer_after t z c (t.consumer c))) (entry_is on)
      ∙ stays_over (step_of limits t e.now (flaw_in e.acts) law.sound law.owned e.event (goes limits t e is on)) c k row over

  by_row : (c : ℕ) (o : Option Consumer) → is_denied e.acts ≡ false → t.consumer c ≡ o → is_live (consumer_after t e c (t.consumer c)) ≡ true →
      (is_live (t.consumer c) ≡ true) ⊎ Starts c e.event
  unfolding consumer_after
  by_row c o on row live = grind (arith, nat_tests, made_live, over_or_live, dead_stays)

  -- who is live behind an entry was live before it, or starts by it
  pub was_live : (c : ℕ) → is_live ((after t e).consumer c) ≡ true → (is_live (t.consumer c) ≡ true) ⊎ Starts c e.event
  was_live c live = grind (arith, nat_tests, consumer_behind, by_row)
