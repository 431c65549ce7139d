-- What came of a schedule that was replayed: its events go on with a run, and the report of them was taken.
use Rattle.std.specs.Prelude.{◌≡◌, ℕ, ◌+◌, ◌≤◌, List, ◌++◌, length, true, Option, Some}
use Rattle.hc_store.specs.declared.backend.Backend.{Ghosts}
use Rattle.hc_io.specs.Sink.{Takes}
use Rattle.hc_sched.specs.declared.schedule.Ended.{Ended}
use Rattle.hc_sched.specs.declared.schedule.Ended.TheVariants as ended
use Rattle.hc_sched.specs.declared.schedule.Timed.{Timed}
use Rattle.hc_sched.specs.Schedule.{Item, Spells}
use Rattle.hc_driver.specs.Courses.{TakesThenPrefix}
use Rattle.hc_driver.specs.Endings.{How, Wholly, UpToLast, UpToWant}
use Rattle.hc_driver.specs.Stepping as steps
use Rattle.hc_driver.specs.Stepping.{events_in, report_of, report_before, last_entry}
use Rattle.hc_model.specs.Entries.{Contents, History}
use Rattle.hc_core.specs.declared.cache.Cache.{Cache}
use Rattle.hc_core.specs.Steps.{StandsFor, has_failed, limits_in, faults_in, steps as steps_in}
use Rattle.hc_replay.specs.Histories.{run_of, failures}
use Rattle.hc_replay.specs.WholeRuns.{IsWholeRun}

-- What was stepped goes on with a run that the cache stood for, and the cache stands for that now.
pub record GoesOn {B : Type 0} {g : Ghosts B} (s u : Cache B g) (h : steps.History) (contents : Contents) (before : History) : Type 0 where
  pub whole : IsWholeRun (limits_in s) contents (run_of h ++ before)
  pub stands : StandsFor u contents (run_of h ++ before)

-- These events were stepped, and go on with each run that the cache stood for. They tell the store's failures no oftener
-- than it counted them.
pub record IsReplayed {B : Type 0} {g : Ghosts B} (s u : Cache B g) (events : List Timed) (h : steps.History) : Type 0 where
  pub events_are : events_in h ≡ events
  pub goes_on : (contents : Contents) (before : History) → StandsFor s contents before →
      GoesOn s u h contents before
  pub counted : faults_in s + failures h ≤ faults_in u
  pub number : steps_in u ≡ steps_in s + length h

-- How far these events were replayed, and what a sink took of their report.
pub data Replays {B : Type 0} {g : Ghosts B} (s u : Cache B g) (out out' : Option (List ℕ)) : How → List Timed → Type 0 where
  wholly : {events : List Timed} (h : steps.History) → IsReplayed s u events h → Takes out out' (report_of h) →
      Replays s u out out' Wholly events
  up_to_last : {events : List Timed} (h : steps.History) → IsReplayed s u events h →
      TakesThenPrefix out out' (report_before h) (last_entry h) → Replays s u out out' UpToLast events
  -- each later step will be refused memory, too
  up_to_want : {events : List Timed} (h : steps.History) (last : Cache B g) → IsReplayed s last events h →
      Takes out out' (report_of h) → has_failed u ≡ true → Replays s u out out' UpToWant events

-- A text that spells items from this moment on, all of which was left, isn't refused.
abbrev pub Completes : ℕ → Option (List ℕ) → Ended → Type 0
Completes moment (Some text) (ended.Refused refusal) =
    (items : List Item) → ¬ Spells moment text items
Completes moment _ _ = Unit {0}
