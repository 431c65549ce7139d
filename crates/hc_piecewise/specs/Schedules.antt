-- A schedule of which a part was handed in, and what a further piece leads to.
use Rattle.std.specs.Prelude.{◌≡◌, ◌⊎◌, ℕ, ◌+◌, ◌*◌, ◌≤◌, ◌^◌, List, [], length, true, Option, Some, None}
use Rattle.hc_event.specs.declared.event.Event.{Event}
use Rattle.hc_event.specs.declared.act.Act.{Act}
use Rattle.hc_sched.specs.declared.schedule.Refused.{Refused}
use Rattle.hc_sched.specs.Reading.{Progress, Stopped, events_in}
use Rattle.hc_sched.specs.Feeding.{lines_in}
use Rattle.hc_sched.specs.Laws.{AreTimed}
use Rattle.hc_driver.specs.Counting.{size_of}
use Rattle.hc_driver.specs.Courses as courses
use Rattle.hc_driver.specs.Endings.{UpToLast}
use Rattle.hc_driver.specs.Pieces as pieces
use Rattle.hc_driver.specs.Stepping.{Reports, never}
use Rattle.hc_piecewise.specs.declared.schedule.Schedule.{Schedule}
use Rattle.hc_piecewise.specs.Texts.{Brings, is_reading}

-- WHAT IT HAS

-- where the reading stands, which is refused or goes on
abbrev pub progress_of : Option Refused → Progress → Progress
progress_of None feed = feed
progress_of (Some refused) feed = Stopped refused

-- where the reading of its text stands
abbrev pub progress_in : Schedule → Progress
progress_in s = progress_of s.stopped s.feed

-- how many events were stepped
abbrev pub entries_in : Schedule → ℕ
entries_in s = s.answering.number

-- the report of its last piece
abbrev pub report_in : Schedule → List ℕ
report_in s = s.report

-- how many bytes were handed in
abbrev pub given_in : Schedule → ℕ
given_in s = s.given

-- where it is refused, if it is
abbrev pub refusal_in : Schedule → Option Refused
refusal_in s = s.stopped

-- A PIECE

-- The events of the piece were stepped one after another, and the report is that of their answers, numbered behind the entries so
-- far. The reading stands where the piece leads to.
abbrev pub IsStepped : {A : Type 0} → (A → ℕ → Event → List Act → A → Type 0) → Schedule → Schedule → List ℕ → A → A → Type 0
IsStepped answers s t piece a b = Brings answers (entries_in s) (entries_in t) (progress_in s) (progress_in t) piece (report_in t) a b

-- Some first of them were stepped, and all of their report was made but a last part of the last entry; or the next one was refused memory.
abbrev pub IsLacking : {A : Type 0} → (A → ℕ → Event → List Act → A → Type 0) → (A → A → Type 0) → Schedule → Schedule → List ℕ → A → A → Type 0
IsLacking answers spent s t piece a b =
    pieces.Some (courses.Goes (Reports answers) never spent (entries_in s) a b (Some []) (Some (report_in t))) UpToLast (events_in (progress_in s) piece)
    ⊎ pieces.Wants (courses.Goes (Reports answers) never spent (entries_in s) a b (Some []) (Some (report_in t))) (events_in (progress_in s) piece)

-- WHETHER IT MAY GO ON

-- Whatever comes next may be stepped by who has taken so many steps and bytes, and whose last moment this is: moments don't go
-- back, and no more is brought than was handed in.
pub record GoesOn (moment steps received : ℕ) (s : Schedule) : Type 0 where
  pub reading : is_reading s.feed ≡ true
  pub timed : (piece : List ℕ) → AreTimed moment (events_in s.feed piece)
  pub small : (piece : List ℕ) → steps + received + size_of (events_in s.feed piece) ≤ given_in s + length piece
  pub few : (piece : List ℕ) → 2 * (steps + length (events_in s.feed piece)) ≤ given_in s + length piece
  pub lines : lines_in s.feed ≤ given_in s
  pub numbered : entries_in s ≤ steps

-- it is so, unless the schedule is refused
abbrev pub MayGoOn : ℕ → ℕ → ℕ → Schedule → Type 0
MayGoOn moment steps received s = (refusal_in s ≡ None → GoesOn moment steps received s) × (given_in s ≤ 2 ^ 60)
