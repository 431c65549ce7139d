-- What a consumer is answered that was shown a head: the view of its reading, and the move of each step.
use Rattle.std.specs.Prelude.{ℕ, ◌+◌, ◌-◌, List, [], ◌∷◌, take, drop, Option, Some, None, is_some, if◌then◌else◌, ◌&&◌}
use Rattle.std.specs.Option.{option_and_then, option_map}
use Rattle.hc_range.specs.declared.range.Span.{Span}
use Rattle.hc_sparse.specs.Runs.{end_of}
use Rattle.hc_sparse.specs.declared.run.Run.{Run}
use Rattle.hc_rules.specs.declared.reading.ReadStep.{ReadStep}
use Rattle.hc_rules.specs.declared.reading.ReadStep.TheVariants as step
use Rattle.hc_rules.specs.declared.reading.ReadView.{ReadView}
use Rattle.hc_rules.specs.Readings.{read_step, cut_at}
use Rattle.hc_event.specs.declared.place.Place.{Place}
use Rattle.hc_event.specs.declared.place.Place.TheVariants as place
use Rattle.hc_model.specs.Rows.{Tables, Exchange, Representation, Consumer}
use Rattle.hc_model.specs.Exchanges.{base}
use Rattle.hc_model.specs.Currents.{row_of, is_number}
use Rattle.hc_model.specs.Holes.{stretch_to, next_from}
use Rattle.hc_model.specs.Reading.{bound_to, offset, hi_of, source}
use Rattle.hc_model.specs.Moves.{Move, Nothing, Ends, Fails, gives, waits_for, opens_hole}

-- what a consumer is bound to
abbrev pub bound_row : Tables → Consumer → Option Representation
bound_row t k = row_of t (bound_to k.place)

-- STORED

abbrev pub stored_from : ℕ → ℕ → Representation → Option Run
stored_from o n v = stretch_to v.stored v.reach o n

-- the stored bytes of one exchange that stand from the consumer's offset on, at most so many
abbrev pub stored_ahead : Tables → Consumer → ℕ → Option Run
stored_ahead t k n = option_and_then (stored_from (offset t k) n) (bound_row t k)

abbrev pub next_stored : Tables → Consumer → Option ℕ
next_stored t k =
    option_and_then (λ (v : Representation). next_from v.stored v.reach (offset t k))
    (bound_row t k)

-- HELD

abbrev pub run_of : ℕ → ℕ → List ℕ → Option Run
run_of x o [] = None
run_of x o (b ∷ bytes) = Some (record { x = x; at = o; bytes = b ∷ bytes })

abbrev pub held_of_exchange : ℕ → ℕ → ℕ → Option Exchange → Option Run
held_of_exchange x o n None = None
held_of_exchange x o n (Some w) = run_of x o (take n (drop (o - base w) w.body))

abbrev pub held_of_lost : ℕ → ℕ → ℕ → Option Representation → Option Run
held_of_lost c o n None = None
held_of_lost c o n (Some v) =
    if v.is_lost && is_number v.alone c then stretch_to v.body v.reach o n else None

abbrev pub held_at : Tables → ℕ → ℕ → ℕ → Place → Option Run
held_at t c o n (place.Direct x) = held_of_exchange x o n (t.exchange x)
held_at t c o n (place.Bound r lo hi by) = held_of_lost c o n (t.representation r)
held_at t c o n _ = None

-- what came and isn't stored, for who reads an answer past the store or goes on alone with what was lost
abbrev pub run_held_for : Tables → ℕ → Consumer → ℕ → Option Run
run_held_for t c k n = held_at t c (offset t k) n k.place

-- THE STEP

-- of a consumer that takes so many bytes
abbrev pub read_view : Tables → ℕ → ℕ → Consumer → ReadView
read_view t want c k = record {
  offset = offset t k;
  hi = hi_of t k.place;
  stored = option_map end_of (stored_ahead t k want);
  held = is_some (run_held_for t c k want);
  due = k.due;
  source = source t k;
  next_stored = next_stored t k;
}

-- as many bytes as are wanted, and not past the end
abbrev pub most : Tables → ℕ → Consumer → ℕ
most t want k = cut_at (hi_of t k.place) (offset t k + want) - offset t k

-- an exchange is opened for a hole whose end is known
abbrev pub later_hole : Tables → Consumer → Span → Option ℕ → Move
later_hole t k hole None = Nothing
later_hole t k hole (Some hi) = opens_hole t k.request (bound_row t k) hole

-- the move of a step
abbrev pub step_move : Tables → ℕ → ℕ → Consumer → ReadStep → Move
step_move t want c k step.Ended = Ends
step_move t want c k (step.Stored upto) = gives (stored_ahead t k (upto - offset t k))
step_move t want c k step.Held = gives (run_held_for t c k (most t want k))
step_move t want c k (step.Failed cause) = Fails cause
step_move t want c k (step.Waits x) = waits_for x (t.exchange x)
step_move t want c k (step.Hole hole) = later_hole t k hole (hi_of t k.place)

abbrev pub reading : Tables → ℕ → ℕ → Consumer → Move
reading t want c k = step_move t want c k (read_step (read_view t want c k))
