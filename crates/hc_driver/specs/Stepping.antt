-- Events that are stepped one after another, and the report of them.
use Rattle.std.specs.Prelude.{◌≡◌, ℕ, ◌+◌, List, [], ◌∷◌, ◌++◌, length, Bool, false, Option}
use Rattle.hc_event.specs.declared.event.Event.{Event}
use Rattle.hc_event.specs.declared.act.Act.{Act}
use Rattle.hc_io.specs.Sink.{Takes}
use Rattle.hc_sched.specs.declared.schedule.Timed.{Timed}
use Rattle.hc_sched.specs.Report.{entry_text}
use Rattle.hc_driver.specs.Courses.{TakesThenPrefix}
use Rattle.hc_driver.specs.Endings.{How, Wholly, UpToLast, UpToWant}

-- an event with its moment, and how it was answered
pub record Entry : Type 0 where
  pub timed : Timed
  pub acts : List Act

-- the newest first
abbrev pub History : Type 0
History = List Entry

-- the events, the oldest first
abbrev pub events_in : History → List Timed
events_in [] = []
events_in (e ∷ h) = events_in h ++ e.timed ∷ []

-- THE REPORT

-- the text of each entry, the oldest first, numbered from 1
abbrev pub report_of : History → List ℕ
report_of [] = []
report_of (e ∷ h) = report_of h ++ entry_text (length h + 1) e.acts

-- the report of all but the last
abbrev pub report_before : History → List ℕ
report_before [] = []
report_before (e ∷ h) = report_of h

-- the text of the last one
abbrev pub last_entry : History → List ℕ
last_entry [] = []
last_entry (e ∷ h) = entry_text (length h + 1) e.acts

-- Some acts answered the event, and the text is their entry.
pub record Reports {A : Type 0} (answers : A → ℕ → Event → List Act → A → Type 0) (s : A) (number now : ℕ) (event : Event) (text : List ℕ) (u : A) : Type 0 where
  pub acts : List Act
  pub answered : answers s now event acts u
  pub text_is : text ≡ entry_text number acts

-- what is stepped is never over
abbrev pub never : {A : Type 0} → A → Bool
never s = false

-- THE STEPS

-- Each event was answered where the one before it led.
pub data Leads {A : Type 0} (answers : A → ℕ → Event → List Act → A → Type 0) (s : A) : History → A → Type 0 where
  nothing : Leads answers s [] s
  more : (h : History) (e : Entry) (t u : A) → Leads answers s h t → answers t e.timed.now e.timed.event e.acts u →
      Leads answers s (e ∷ h) u

-- How far these events were stepped, and what a sink took of their report.
pub data Steps {A : Type 0} (answers : A → ℕ → Event → List Act → A → Type 0) (spent : A → A → Type 0) (s u : A) (out out' : Option (List ℕ)) : How → List Timed → Type 0 where
  wholly : {events : List Timed} (h : History) → events_in h ≡ events → Leads answers s h u →
      Takes out out' (report_of h) → Steps answers spent s u out out' Wholly events
  up_to_last : {events : List Timed} (h : History) → events_in h ≡ events → Leads answers s h u →
      TakesThenPrefix out out' (report_before h) (last_entry h) → Steps answers spent s u out out' UpToLast events
  up_to_want : {events : List Timed} (h : History) (last : A) → events_in h ≡ events → Leads answers s h last →
      Takes out out' (report_of h) → spent last u → Steps answers spent s u out out' UpToWant events
