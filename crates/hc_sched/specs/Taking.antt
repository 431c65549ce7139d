-- What the code does with a line, and what the line does.
use Rattle.std.specs.Prelude.{◌≡◌, List, [], ◌++◌, Result, Ok, Err}
use Rattle.hc_sched.specs.declared.schedule.FeedError.{FeedError}
use Rattle.hc_sched.specs.declared.schedule.FeedError.TheVariants as error
use Rattle.hc_sched.specs.declared.schedule.Timed.{Timed}
use Rattle.hc_sched.specs.declared.place.Place.{Place}
use Rattle.hc_sched.specs.Limits.{MayBegun}
use Rattle.hc_sched.specs.Reading.{Step, Reads, Stopped}

-- The step leads to this place, and its events were added.
pub record Does (step : Step) (place : Place) (old new : List Timed) : Type 0 where
  pub next : step.next ≡ Reads place []
  pub adds : new ≡ old ++ step.events
  pub kept : MayBegun place.begun

-- The step does so, or leads to the refusal and brings no event.
abbrev pub Takes : Step → Result (Unit {0}) FeedError → Place → List Timed → List Timed → Type 0
Takes step (Ok done) place old new = Does step place old new
Takes step (Err (error.Refused refused)) place old new =
    (step.next ≡ Stopped refused) × (step.events ≡ []) × (new ≡ old)
Takes step (Err error.NoMemory) place old new = new ≡ old
