-- An event is answered, where it is known what it does.
use Rattle.std.{proofs.Common.{◌≡◌, ℕ, ◌+◌, ◌<◌, List, ◌++◌, Bool, true, false, Some, None, refl, ap, sym, ◌∙◌, subst}, specs.Prelude.{nat_eq, ◌&&◌}}
use Rattle.hc_text.proofs.Basics.{eqb-same, false_true}
use Rattle.hc_store.specs.declared.backend.Backend.{Ghosts}
use Rattle.hc_effects.proofs.Vocabulary.{Event, Act, Limits, Does, NoFlaw, Loses, flaw_in, entry_of, Tables, is_kept, has_room, written_representation, room_for, write_in, entry_without_acts, kind}
use Rattle.hc_stored.specs.Entries.{shelf_of}
use Rattle.hc_state.specs.{declared.rows.Rows.{Rows}, Stands.{Answered, RowsStand}}

-- what writes nothing has room
unwritten : (limits : Limits) (t : Tables) (now : ℕ) (event : Event) → write_in t (entry_without_acts now event) event ≡ None →
    has_room (room_for limits t now event) ≡ true
unfolding room_for
unwritten limits t now event none = rw none refl

-- an event that writes nothing, and at which the store doesn't fail
pub does_answered : {B : Type 0} {g : Ghosts B} (limits : Limits) (faults : ℕ) (u : Rows B g) (t s : Tables) (before out acts : List Act) (now : ℕ)
    (event : Event) → Does limits t now event NoFlaw acts s
    → write_in t (entry_without_acts now event) event ≡ None → flaw_in acts ≡ NoFlaw → out ≡ before ++ acts → RowsStand limits u s →
    Answered limits faults u t before out now event
does_answered limits faults u t s before out acts now event does none flawless reported stands = record {
  flaw = NoFlaw;
  acts = reported ∙ ap (λ z. before ++ z) (sym does.acts_are);
  shown = ap flaw_in does.acts_are ∙ flawless;
  may = unwritten limits t now event none;
  caused = λ is. false_true is;
  rows = subst (RowsStand limits u) (sym does.tables_are) stands;
}

-- an event at which the store fails, where it writes what is lost
pub lossy_answered : {B : Type 0} {g : Ghosts B} (limits : Limits) (faults : ℕ) (u : Rows B g) (t s : Tables) (before out acts : List Act) (now : ℕ)
    (event : Event) (r : ℕ) → Does limits t now event (Loses r kind.Fault) acts s
    → written_representation t (entry_of limits t now event (Loses r kind.Fault)) ≡ Some r → is_kept (t.representation r) ≡ true → flaw_in
    acts ≡ Loses r kind.Fault → faults < (shelf_of u.entries).faults → out ≡ before ++ acts → RowsStand limits u s →
    Answered limits faults u t before out now event
lossy_answered limits faults u t s before out acts now event r does writes kept flawed failed reported stands = record {
  flaw = Loses r kind.Fault;
  acts = reported ∙ ap (λ z. before ++ z) (sym does.acts_are);
  shown = ap flaw_in does.acts_are ∙ flawed;
  may = rw (writes, kept) (by_same (nat_eq r r) (eqb-same r));
  caused = λ is. failed;
  rows = subst (RowsStand limits u) (sym does.tables_are) stands;
}
  where
    by_same : (b : Bool) → b ≡ true → (b && true && true) ≡ true
    by_same true on = refl
    by_same false on = false_true on
