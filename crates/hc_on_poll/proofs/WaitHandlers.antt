-- Polls that wait without a look at what is stored: in line for the turn, and with it for a head.
use Rattle.std.proofs.Common.{◌≡◌, ℕ, List, [], ◌∷◌, ◌++◌, true, Some, refl, ap, sym, ◌∙◌}
use Rattle.hc_text.proofs.Basics.{false_true}
use Rattle.hc_store.specs.declared.backend.Backend.{Ghosts}
use Rattle.hc_effects.proofs.Vocabulary.{event, act, wait, place, Act, Limits, Place, with_consumer, with_event, Lawful, acts_of, IsAway, planned_move, move_of, Tables, Consumer}
use Rattle.hc_model.specs.Moves as moves
use Rattle.hc_effects.proofs.WaitEffects.{waits, waits_on}
use Rattle.hc_state.specs.{declared.rows.Rows.{Rows}, Plans.{is_idle_at, in_line}, Stands.{Answered, RowsStand}}
use Rattle.hc_state.proofs.{Answering.{does_answered}, Counting.{stands_counted}}

-- whoever waits in line, or has passed, does what its plan says
pub plans_move : (t : Tables) (law : Lawful t) (now want c : ℕ) (v : Consumer) → t.consumer c ≡ Some v → is_idle_at v.place ≡ true →
    move_of t now want c v ≡ planned_move t now c v
plans_move t law now want c v row idle = by_where v.place refl
  where
    by_away : IsAway t v → (p : Place) → v.place ≡ p → is_idle_at p ≡ true → move_of t now want c v ≡ planned_move t now c v
    by_away away place.Line at on = rw (away.idle.unshown, away.unowned, at) refl
    by_away away (place.Passed r kept) at on = rw (away.idle.unshown, away.unowned, at) refl
    by_away away _ at on = false_true on

    by_where : (p : Place) → v.place ≡ p → move_of t now want c v ≡ planned_move t now c v
    by_where place.Line at = by_away (law.places.line c v row at) place.Line at refl
    by_where (place.Passed r kept) at = by_away (law.places.passed c r kept v row at) (place.Passed r kept) at refl
    by_where _ at = false_true (sym (ap is_idle_at at) ∙ idle)

-- who has the turn waits for the head of its exchange
pub turn_move : (t : Tables) (law : Lawful t) (now want c x : ℕ) (v : Consumer) → t.consumer c ≡ Some v → v.place ≡ place.Turn x →
    move_of t now want c v ≡ moves.Waits (wait.Head x)
turn_move t law now want c x v row at =
    let a = law.places.turn c x v row at in
    rw (a.idle.unshown, at, a.own, a.row, a.is_open, a.row, a.is_open, a.headless) refl

module _ {B : Type 0} {g : Ghosts B} (limits : Limits) (faults : ℕ) (u : Rows B g) (t : Tables) (law : Lawful t) (now c want : ℕ) (v : Consumer)
    (row : t.consumer c ≡ Some v) (before out : List Act) where
  pub turn_waits : (d : ℕ) → move_of t now want c v ≡ moves.Waits (wait.Turn d) → out ≡ before ++ (act.Pending c (wait.Turn d) ∷ []) →
      RowsStand limits u (with_consumer c (Some (in_line v)) t) → Answered limits faults u t before out now (event.Poll c want)
  turn_waits d is reported stands =
      does_answered limits faults u t (with_event now (event.Poll c want) (with_consumer c (Some (in_line v)) t)) before out
      (acts_of c (moves.Waits (wait.Turn d))) now (event.Poll c want)
      (waits limits t law now c want v row (wait.Turn d) is) refl refl reported
      (stands_counted u (with_consumer c (Some (in_line v)) t) now (event.Poll c want) refl stands)

  -- nothing changes
  pub head_waits : (x : ℕ) → move_of t now want c v ≡ moves.Waits (wait.Head x) → out ≡ before ++ (act.Pending c (wait.Head x) ∷ []) →
      RowsStand limits u t → Answered limits faults u t before out now (event.Poll c want)
  head_waits x is reported stands =
      does_answered limits faults u t (with_event now (event.Poll c want) t) before out (acts_of c (moves.Waits (wait.Head x))) now (event.Poll c want)
      (waits_on limits t law now c want v row (wait.Head x) is refl) refl refl reported (stands_counted u t now (event.Poll c want) refl stands)
