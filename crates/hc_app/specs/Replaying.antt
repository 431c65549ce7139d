-- What a replay owes: the report of a run of the schedule's events.
use Rattle.std.specs.Prelude.{◌≡◌, ℕ, List}
use Rattle.hc_sched.specs.declared.schedule.Refused.{Refused}
use Rattle.hc_sched.specs.declared.schedule.Timed.{Timed}
use Rattle.hc_sched.specs.Schedule.{Item, Spells, events_of}
use Rattle.hc_driver.specs.Endings.{Reach, ToEnd, IsUnrefused, IsRefusedIn, IsSteppedAtOnce, events_from}
use Rattle.hc_driver.specs.Stepping.{History, events_in, report_of, report_before, last_entry}
use Rattle.hc_rules.specs.declared.room.Limits.{Limits}
use Rattle.hc_model.specs.Entries.{no_contents}
use Rattle.hc_model.specs.Reads.{ReadsWhole}
use Rattle.hc_model.specs.Runs.{IsRun}
use Rattle.hc_replay.specs.Histories.{run_of, failures}
use Rattle.hc_app.specs.declared.status.Status.TheVariants as status
use Rattle.hc_app.specs.Owing.{Owed, Quiet, Saying, Duty}
use Rattle.hc_app.specs.Texts.{refusal_text}

-- What the store may hold, in bytes: of one body, and of all representations together.
abbrev pub store_limits : Limits
store_limits = record { max_entry = 16777216; max_total = 268435456 }

-- It is a run of the consumer table, from an empty store that never fails, in which each consumer reads
-- one interval of one body, whole where it is told its end.
pub record IsWhole (history : History) : Type 0 where
  pub run : IsRun store_limits no_contents (run_of history)
  pub reads : ReadsWhole no_contents (run_of history)
  pub sound : failures history ≡ 0

-- The text is the report of such a run of these events.
pub record IsReport (events : List Timed) (report : List ℕ) : Type 0 where
  pub history : History
  pub whole : IsWhole history
  pub events_are : events_in history ≡ events
  pub report_is : report_of history ≡ report

-- The report of all events is owed; or that of those before the refused line, which is told.
pub data Replays : Reach → List ℕ → Owed → Type 0 where
  spelled : (text report : List ℕ) (items : List Item) → Spells 0 text items →
      IsReport (events_of 0 items) report → Replays ToEnd text (Quiet report)
  refused : (reach : Reach) (text report : List ℕ) (refused : Refused) →
      IsRefusedIn 0 text refused reach → IsReport (events_from 0 text) report →
      Replays reach text (Saying report (refusal_text refused) status.Refused)

-- the report is owed of the whole items of what could be read, none of whose lines is refused
abbrev pub StopsReplay : List ℕ → List ℕ → Type 0
StopsReplay text report = IsUnrefused 0 text × IsReport (events_from 0 text) report

-- The events that were stepped are such a run: the first ones of what was read, and all of those before its last piece. The
-- report is that of all but the last, and the entry is the last one's.
pub record BeginsReplay (text report entry : List ℕ) : Type 0 where
  pub history : History
  pub rest : List Timed
  pub stepped : IsSteppedAtOnce 0 text (events_in history) rest
  pub whole : IsWhole history
  pub report_is : report_before history ≡ report
  pub entry_is : last_entry history ≡ entry

abbrev pub replaying : Duty
replaying = record { Owes = Replays; Stops = StopsReplay; Begins = BeginsReplay }
