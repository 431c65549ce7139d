-- What a replay behind a front owes: the report of what the front tells of a run.
use Rattle.std.specs.Prelude.{◌≡◌, ℕ, List}
use Rattle.hc_sched.specs.declared.schedule.Refused.{Refused}
use Rattle.hc_sched.specs.declared.schedule.Timed.{Timed}
use Rattle.hc_sched.specs.Schedule.{Item, Spells, events_of}
use Rattle.hc_driver.specs.Endings.{Reach, ToEnd, IsUnrefused, IsRefusedIn, IsSteppedAtOnce, events_from}
use Rattle.hc_driver.specs.Stepping.{History, events_in, report_of, report_before, last_entry}
use Rattle.hc_model.specs.Entries.{no_contents}
use Rattle.hc_model.specs.Reads.{ReadsWhole}
use Rattle.hc_model.specs.Runs.{IsRun}
use Rattle.hc_replay.specs.Histories.{failures}
use Rattle.hc_front.specs.FrontHistories.{FrontHistory, core_of, answered_of}
use Rattle.hc_app.specs.declared.status.Status.TheVariants as status
use Rattle.hc_app.specs.Owing.{Owed, Quiet, Saying, Duty}
use Rattle.hc_app.specs.Replaying.{store_limits}
use Rattle.hc_app.specs.Texts.{refusal_text}

-- It is what a front tells of what its cache answered. The history of the cache is a run of the consumer table, from an empty
-- store that never fails, in which each consumer reads one interval of one body, whole where the cache tells it its end.
pub record IsFronted (history : History) : Type 0 where
  pub heard : FrontHistory
  pub reported : answered_of no_contents heard ≡ history
  pub run : IsRun store_limits no_contents (core_of no_contents heard)
  pub reads : ReadsWhole no_contents (core_of no_contents heard)
  pub sound : failures history ≡ 0

-- The text is the report of what a front tells so of these events.
pub record IsFrontReport (events : List Timed) (report : List ℕ) : Type 0 where
  pub history : History
  pub fronted : IsFronted history
  pub events_are : events_in history ≡ events
  pub report_is : report_of history ≡ report

-- The report of all events is owed; or that of those before the refused line, which is told.
pub data Fronts : Reach → List ℕ → Owed → Type 0 where
  spelled : (text report : List ℕ) (items : List Item) → Spells 0 text items →
      IsFrontReport (events_of 0 items) report → Fronts ToEnd text (Quiet report)
  refused : (reach : Reach) (text report : List ℕ) (refused : Refused) →
      IsRefusedIn 0 text refused reach → IsFrontReport (events_from 0 text) report →
      Fronts reach text (Saying report (refusal_text refused) status.Refused)

-- the report is owed of the whole items of what could be read, none of whose lines is refused
abbrev pub StopsFront : List ℕ → List ℕ → Type 0
StopsFront text report = IsUnrefused 0 text × IsFrontReport (events_from 0 text) report

-- The events that were stepped are the first ones of what was read, and all of those before its last piece. The report is that
-- of all but the last, and the entry is the last one's.
pub record BeginsFront (text report entry : List ℕ) : Type 0 where
  pub history : History
  pub rest : List Timed
  pub stepped : IsSteppedAtOnce 0 text (events_in history) rest
  pub fronted : IsFronted history
  pub report_is : report_before history ≡ report
  pub entry_is : last_entry history ≡ entry

abbrev pub fronting : Duty
fronting = record { Owes = Fronts; Stops = StopsFront; Begins = BeginsFront }
