-- What it does that a consumer ends, fails or is cancelled: it is over, and what nobody reads any more is closed.
use Rattle.std.{proofs.Common.{◌≡◌, ℕ, List, [], ◌++◌, false, Option, Some, None, refl, ap, sym, ◌∙◌}, specs.Prelude.{map, nat_eq}}
use Rattle.hc_effects.proofs.Vocabulary.{Act, Cause, Event, Limits, Place, answer_acts, Does, with_event, with_consumer, let_some_go, let_all_go, as_over, left_by, going_with, with_leave, Entry, NoFlaw, becomes_gone, Lawful, Ends, Fails, acts_of, move_of, poll_move, Tables, Representation, Consumer, loses_what_it_waits_for, after_accepted, with_item_first, act, place}
use Rattle.hc_event.specs.declared.event.Event.TheVariants as event
use Rattle.hc_effects.proofs.{ActParts.{IsFarFrom}, Basics.{append_none}, ConsumerEffects.{waits_as, representations, some_all}, FailsReported.{fails_reported}, LeaveFrames.{IsPrefix, e, nothing, far, acts_left, loses_as, goes_by, leaves}, LeftBy.{left_passed}, OfConsumers.{BringsNothing}, PollEffects.{loses_none}, SameTables.{is_in, in_one, waits_for_any, all_closed_is}}
use Rattle.hc_effects.proofs.LeaveFrames as front_of

module _ (t : Tables) (law : Lawful t) (c : ℕ) (k : Consumer) (row : t.consumer c ≡ Some k) where
  -- nothing goes with what it leaves that it waits for
  unwaiting : (p : Place) → k.place ≡ p → waits_for_any (with_item_first (going_with t (left_by t c k)) []) p ≡ false
  unwaiting (place.Passed r kept) at =
      ap (λ (z : Option ℕ). waits_for_any (with_item_first (going_with t z) []) (place.Passed r kept)) (left_passed t law c k row r kept at)
  unwaiting _ at = refl

module _ (limits : Limits) (t : Tables) (law : Lawful t) (now c : ℕ) (k : Consumer) (row : t.consumer c ≡ Some k) where
  module _ (ev : Event) (front : List Act) (is : IsPrefix c ev None front) (says : answer_acts t now ev NoFlaw ≡ front) where
    abbrev it : Entry
    it = e limits t law now c k row ev NoFlaw None front is

    n : BringsNothing t it c
    n = nothing limits t law now c k row ev NoFlaw None front is it.acts

    far_it : (d : ℕ) → nat_eq c d ≡ false → IsFarFrom d it.acts
    far_it = far limits t law now c k row ev NoFlaw None front is

    abbrev rs : List ℕ
    rs = with_item_first (going_with t (left_by t c k)) []

    goes : (r : ℕ) (v : Representation) → t.representation r ≡ Some v → becomes_gone t it r v ≡ is_in rs r
    goes r v there = goes_by limits t law now c k row ev NoFlaw None front is r v there ∙ sym (in_one (going_with t (left_by t c k)) r)

    stays : loses_what_it_waits_for t it c k.place ≡ false
    stays =
        loses_none t it c k.place
        (waits_as t it law rs goes c k row k.place refl
        ∙ unwaiting t law c k row k.place refl)

    acts_are : it.acts ≡ front ++ map act.Close (with_item_first (left_by t c k) [])
    acts_are = ap (λ acts. front ++ acts) (append_none (map act.Close (with_item_first (left_by t c k) [])))

    pub leave_does : Does limits t now ev NoFlaw (front ++ map act.Close (with_item_first (left_by t c k) []))
        (with_event now ev (let_some_go now (going_with t (left_by t c k)) (with_leave c k t)))
    leave_does = record {
      acts_are = acts_left limits t law now c k row ev NoFlaw None front is says ∙ acts_are;
      tables_are =
          ap (λ acts. after_accepted t (record { now = now; event = ev; acts = acts })) (acts_left limits t law now c k row ev NoFlaw None front is says)
          ∙ (leaves limits t law now c k row ev NoFlaw None front is rs t.representation goes
          (representations t it c n law far_it rs goes (loses_as limits t law now c k row ev NoFlaw None front is))
          stays
          ∙ (ap (λ (u : Tables). with_event now ev (let_all_go now rs (with_consumer c (Some (as_over k)) u)))
          (sym (all_closed_is (with_item_first (left_by t c k) []) t))
          ∙ ap (with_event now ev) (some_all now (going_with t (left_by t c k)) (with_leave c k t))));
    }

  -- who is told the end is over
  pub ends : (want : ℕ) → move_of t now want c k ≡ Ends →
      Does limits t now (event.Poll c want) NoFlaw (acts_of c Ends ++ map act.Close (with_item_first (left_by t c k) []))
      (with_event now (event.Poll c want) (let_some_go now (going_with t (left_by t c k)) (with_leave c k t)))
  ends want is = leave_does (event.Poll c want) (acts_of c Ends) (front_of.ends want)
      (ap (λ (o : Option Consumer). acts_of c (poll_move t now want c o)) row ∙ ap (acts_of c) is)

  -- who is told a failure
  pub fails : (want : ℕ) (why : Cause) → move_of t now want c k ≡ Fails why →
      Does limits t now (event.Poll c want) NoFlaw (acts_of c (Fails why) ++ map act.Close (with_item_first (left_by t c k) []))
      (with_event now (event.Poll c want) (let_some_go now (going_with t (left_by t c k)) (with_leave c k t)))
  fails want why is = leave_does (event.Poll c want) (acts_of c (Fails why))
      (front_of.fails want why (fails_reported t now want c k why law.sound law.places row is))
      (ap (λ (o : Option Consumer). acts_of c (poll_move t now want c o)) row ∙ ap (acts_of c) is)

  -- who is cancelled
  pub cancels : Does limits t now (event.Cancel c) NoFlaw (map act.Close (with_item_first (left_by t c k) []))
      (with_event now (event.Cancel c) (let_some_go now (going_with t (left_by t c k)) (with_leave c k t)))
  cancels = leave_does (event.Cancel c) [] front_of.cancels refl
