-- What came of one piece of a text, by what stopped it.
use Rattle.std.specs.Prelude.{◌≡◌, ◌⊎◌, ℕ, List, ◌∷◌, ◌++◌, Result, Ok, Err}
use Rattle.hc_sched.specs.declared.schedule.Timed.{Timed}
use Rattle.hc_sched.specs.Reading.{Progress, Stopped, after, events_in}
use Rattle.hc_driver.specs.declared.stop.Stop.{Stop}
use Rattle.hc_driver.specs.declared.stop.Stop.TheVariants as stop
use Rattle.hc_driver.specs.Endings.{How, Wholly, UpToEnd, UpToLast, UpToWant}

-- Some first of these events went so far.
pub record Some (Went : How → List Timed → Type 0) (how : How) (events : List Timed) : Type 0 where
  pub first : List Timed
  pub rest : List Timed
  pub whole : first ++ rest ≡ events
  pub went : Went how first

-- Some first of them were answered, and the answer to the next one was refused memory.
pub record Wants (Went : How → List Timed → Type 0) (events : List Timed) : Type 0 where
  pub first : List Timed
  pub rest : List Timed
  pub next : Timed
  pub whole : first ++ next ∷ rest ≡ events
  pub went : Went UpToWant first

-- how far these events went, by what stopped them
abbrev pub Comes : (How → List Timed → Type 0) → List Timed → Result (Unit {0}) Stop → Type 0
Comes Went events (Ok done) = Went Wholly events
Comes Went events (Err stop.Over) = Some Went UpToEnd events
Comes Went events (Err stop.SinkFailed) = Some Went UpToLast events
Comes Went events (Err stop.NoMemory) = Some Went UpToLast events ⊎ Wants Went events
Comes Went events (Err stop.SourceFailed) = ⊥
Comes Went events (Err (stop.Refused refused)) = ⊥

-- how far the events of a piece went, and where the reading stands behind it, by what stopped it
abbrev pub Passes : (How → List Timed → Type 0) → Progress → List ℕ → Progress → Result (Unit {0}) Stop → Type 0
Passes Went before piece now (Ok done) =
    (after before piece ≡ now) × Went Wholly (events_in before piece)
Passes Went before piece now (Err (stop.Refused refused)) =
    (after before piece ≡ Stopped refused) × Went Wholly (events_in before piece)
Passes Went before piece now (Err stop) = Comes Went (events_in before piece) (Err stop)
