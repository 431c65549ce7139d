-- What a poll does at which a read of the store fails: its consumer fails, and what it was to read is let go.
use Rattle.std.{proofs.{lemmas.Bool.Decides.{nat_tests}, Common.{arith, ◌≡◌, ℕ, List, [], ◌∷◌, ◌++◌, false, Option, Some, refl, ap, sym, ◌∙◌}}, specs.Prelude.{◌||◌, ◌==◌, nat_eq, map}}
use Rattle.hc_effects.proofs.Vocabulary.{Act, Event, Limits, Place, is_number, Does, with_event, with_consumer, let_go, let_some_go, let_all_go, as_over, left_by, going_with, with_leave, Entry, Flaw, Misreads, becomes_gone, Lawful, Tables, Representation, Consumer, loses_what_it_waits_for, after_accepted, with_item_first, act, cause}
use Rattle.hc_event.specs.declared.event.Event.TheVariants as event
use Rattle.hc_effects.proofs.{ActParts.{IsFarFrom}, Basics.{append_none}, ConsumerEffects.{representations, two_all}, LeaveFrames.{IsPrefix, e, nothing, far, acts_left, loses_as, goes_by, leaves}, OfConsumers.{BringsNothing}, SameTables.{is_in, all_closed_is}}
use Rattle.hc_effects.proofs.LeaveFrames as front_of

module _ (limits : Limits) (t : Tables) (law : Lawful t) (now c want : ℕ) (k : Consumer) (row : t.consumer c ≡ Some k) (r : ℕ) where
  abbrev ev : Event
  ev = event.Poll c want

  abbrev flaw : Flaw
  flaw = Misreads r

  abbrev front : List Act
  front = act.Failed c (cause.StoreRead r) ∷ []

  is : IsPrefix c ev (Some r) front
  is = front_of.misreads want r

  abbrev it : Entry
  it = e limits t law now c k row ev flaw (Some r) front is

  n : BringsNothing t it c
  n = nothing limits t law now c k row ev flaw (Some r) front is it.acts

  far_it : (d : ℕ) → nat_eq c d ≡ false → IsFarFrom d it.acts
  far_it = far limits t law now c k row ev flaw (Some r) front is

  abbrev rs : List ℕ
  rs = with_item_first (going_with t (left_by t c k)) (r ∷ [])

  either : (g : Option ℕ) (q : ℕ) → (false || (r == q) || is_number g q) ≡ is_in (with_item_first g (r ∷ [])) q
  either g q = grind (arith, nat_tests)

  goes : (q : ℕ) (v : Representation) → t.representation q ≡ Some v → becomes_gone t it q v ≡ is_in rs q
  goes q v there = goes_by limits t law now c k row ev flaw (Some r) front is q v there ∙ either (going_with t (left_by t c k)) q

  -- who fails doesn't start over
  stays : (p : Place) → loses_what_it_waits_for t it c p ≡ false
  stays p = grind (arith, nat_tests)

  -- it is over, what nobody reads any more is closed, and what it was to read is let go
  pub misreads : Does limits t now ev flaw (act.Failed c (cause.StoreRead r) ∷ map act.Close (with_item_first (left_by t c k) []))
      (with_event now ev (let_go now r (let_some_go now (going_with t (left_by t c k)) (with_leave c k t))))
  misreads = record {
    acts_are = acts_left limits t law now c k row ev flaw (Some r) front is refl ∙
        ap (λ acts. front ++ acts) (append_none (map act.Close (with_item_first (left_by t c k) [])));
    tables_are =
        ap (λ acts. after_accepted t (record { now = now; event = ev; acts = acts })) (acts_left limits t law now c k row ev flaw (Some r) front is refl)
        ∙ (leaves limits t law now c k row ev flaw (Some r) front is rs t.representation goes
        (representations t it c n law far_it rs goes (loses_as limits t law now c k row ev flaw (Some r) front is))
        (stays k.place)
        ∙ (ap (λ (u : Tables). with_event now ev (let_all_go now rs (with_consumer c (Some (as_over k)) u)))
        (sym (all_closed_is (with_item_first (left_by t c k) []) t))
        ∙ ap (with_event now ev) (two_all now r (going_with t (left_by t c k)) (with_leave c k t))));
  }
