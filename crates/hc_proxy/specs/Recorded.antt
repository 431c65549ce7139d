-- What the record is: the text of a schedule that goes on from the moment of the contents.
use Rattle.std.specs.Prelude.{◌≡◌, ℕ, List, map, reverse, Option}
use Rattle.hc_io.specs.Sink.{Takes, TakesPrefix}
use Rattle.hc_model.specs.Entries.{Contents, History}
use Rattle.hc_model.specs.Runs.{IsRun}
use Rattle.hc_rules.specs.declared.room.Limits.{Limits}
use Rattle.hc_sched.specs.declared.schedule.Ended.{Ended}
use Rattle.hc_sched.specs.declared.schedule.Ended.TheVariants as ended
use Rattle.hc_sched.specs.Schedule.{Item, Spells}
use Rattle.hc_sched.specs.Schedule as schedule
use Rattle.hc_proxy.specs.Rows.{Proxy}
use Rattle.hc_proxy.specs.Turns.{events_of, record_of, timed_of}

-- The record of these tables spells a schedule, whose events are those that were stepped.
pub record HasSchedule (p : Proxy) : Type 0 where
  pub items : List Item
  pub spells : Spells p.setting.contents.now (record_of p) items
  pub events : schedule.events_of p.setting.contents.now items ≡ events_of p

-- The text spells a schedule, whose events are those of a run from the contents, whatever its store loses.
pub record IsRecorded (limits : Limits) (contents : Contents) (text : List ℕ) : Type 0 where
  pub history : History
  pub run : IsRun limits contents history
  pub items : List Item
  pub spells : Spells contents.now text items
  pub events : schedule.events_of contents.now items ≡ map timed_of (reverse history)

-- With Done all of such a text was taken, and else some first part of one.
abbrev pub Records : Limits → Contents → Option (List ℕ) → Option (List ℕ) → Ended → Type 0
Records limits contents out out' ended.Done =
    (text : List ℕ) × IsRecorded limits contents text × Takes out out' text
Records limits contents out out' _ =
    (text : List ℕ) × IsRecorded limits contents text × TakesPrefix out out' text
