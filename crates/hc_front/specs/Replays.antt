-- What came of a schedule that was replayed behind a front: its events go on with a front history, and the report of
-- what the front told was taken.
use Rattle.std.specs.Prelude.{◌≡◌, ℕ, ◌+◌, ◌≤◌, List, ◌++◌, length, true, Option}
use Rattle.hc_store.specs.declared.backend.Backend.{Ghosts}
use Rattle.hc_io.specs.Sink.{Takes}
use Rattle.hc_sched.specs.declared.schedule.Timed.{Timed}
use Rattle.hc_driver.specs.Courses.{TakesThenPrefix}
use Rattle.hc_driver.specs.Endings.{How, Wholly, UpToLast, UpToWant}
use Rattle.hc_driver.specs.Stepping as steps
use Rattle.hc_driver.specs.Stepping.{events_in, report_of, report_before, last_entry}
use Rattle.hc_model.specs.Entries.{Contents}
use Rattle.hc_replay.specs.Histories.{failures}
use Rattle.hc_replay.specs.WholeRuns.{IsWholeRun}
use Rattle.hc_front.specs.declared.front.Front.{Front}
use Rattle.hc_front.specs.FrontHistories.{FrontHistory, core_of, answered_of}
use Rattle.hc_front.specs.Steps.{FrontStands, has_failed, limits_in, faults_in, steps as steps_in}

-- What was heard goes on with a front history that the front stood for, and the front stands for that now. The history of
-- the cache is a run in which each consumer reads one answer whole, and h is what the front told.
pub record GoesOn {B : Type 0} {g : Ghosts B} (s u : Front B g) (h : steps.History) (heard : FrontHistory) (contents : Contents) (before : FrontHistory) : Type 0 where
  pub whole : IsWholeRun (limits_in s) contents (core_of contents (heard ++ before))
  pub reported : answered_of contents (heard ++ before) ≡ h ++ answered_of contents before
  pub stands : FrontStands u contents (heard ++ before)

-- These events were stepped, and go on with each front history that the front stood for. They tell the store's failures
-- no oftener than it counted them.
pub record IsReplayed {B : Type 0} {g : Ghosts B} (s u : Front B g) (events : List Timed) (h : steps.History) : Type 0 where
  pub heard : FrontHistory
  pub events_are : events_in h ≡ events
  pub goes_on : (contents : Contents) (before : FrontHistory) → FrontStands s contents before →
      GoesOn s u h heard contents before
  pub counted : faults_in s + failures h ≤ faults_in u
  pub number : steps_in u ≡ steps_in s + length h

-- How far these events were replayed, and what a sink took of their report.
pub data ReplaysFront {B : Type 0} {g : Ghosts B} (s u : Front B g) (out out' : Option (List ℕ)) : How → List Timed → Type 0 where
  wholly : {events : List Timed} (h : steps.History) → IsReplayed s u events h → Takes out out' (report_of h) →
      ReplaysFront s u out out' Wholly events
  up_to_last : {events : List Timed} (h : steps.History) → IsReplayed s u events h →
      TakesThenPrefix out out' (report_before h) (last_entry h) → ReplaysFront s u out out' UpToLast events
  -- each later step will be refused memory, too
  up_to_want : {events : List Timed} (h : steps.History) (last : Front B g) → IsReplayed s last events h →
      Takes out out' (report_of h) → has_failed u ≡ true → ReplaysFront s u out out' UpToWant events
