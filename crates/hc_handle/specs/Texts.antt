-- A session whose events come as the text of a schedule: where its reading stands, and what a piece of it leads to.
use Rattle.std.specs.Prelude.{◌≡◌, ◌≢◌, ℕ, ◌+◌, ◌^◌, ◌||◌, nat_lt, List, [], length, true, false, Option, Some, None, Result, Ok, Err, if◌then◌else◌}
use Rattle.hc_binary.specs.declared.refused.CallRefusal.{CallRefusal}
use Rattle.hc_binary.specs.declared.refused.CallRefusal.TheVariants as refused
use Rattle.hc_core.specs.declared.cache.Cache.{Cache}
use Rattle.hc_core.specs.Steps.{Answers, last_moment, bytes_received}
use Rattle.hc_core.specs.Steps as core
use Rattle.hc_event.specs.Acts.{act_list}
use Rattle.hc_event.specs.declared.act.Act.{Act}
use Rattle.hc_event.specs.declared.event.Event.{Event}
use Rattle.hc_piecewise.specs.Schedules.{progress_in, entries_in, given_in}
use Rattle.hc_piecewise.specs.Texts.{Brings, is_reading}
use Rattle.hc_piecewise.specs.declared.schedule.Schedule.{Schedule}
use Rattle.hc_sched.specs.Feeding.{progress_at_end}
use Rattle.hc_sched.specs.Reading.{Progress, Stopped, refusal_at}
use Rattle.hc_sched.specs.declared.schedule.Refused.{Refused}
use Rattle.hc_sched.specs.declared.schedule.SchedRefusal.{SchedRefusal}
use Rattle.hc_sched.specs.declared.schedule.SchedRefusal.TheVariants as reason
use Rattle.hc_store.specs.declared.backend.Backend.{Ghosts}
use Rattle.hc_handle.specs.Readings as readings
use Rattle.hc_handle.specs.Sessions.{IsSilent, has_text}
use Rattle.hc_handle.specs.declared.session.Session.{Session}

-- WHERE THE READING STANDS

-- before the first piece at the beginning of a text, at the moment of the cache
abbrev pub progress_at : Session → Progress
progress_at s = readings.progress_of (last_moment s.cache) s.schedule

-- how many entries the report of the text has so far
abbrev pub entries_at : Session → ℕ
entries_at s = readings.entries_of s.schedule

-- the report of the last piece
abbrev pub report_at : Session → List ℕ
report_at s = readings.report_of s.schedule

-- how many bytes of the text were handed in
abbrev pub given_at : Session → ℕ
given_at s = readings.given_of s.schedule

-- where the text is refused, if it is
abbrev pub refused_in : Session → Option Refused
refused_in s = readings.refusal_of s.schedule

-- the number of a reason, as `replay` tells it
abbrev pub number_of : SchedRefusal → ℕ
number_of reason.BadLine = 1
number_of reason.LineTooLong = 2
number_of reason.BadTarget = 3
number_of (reason.MomentBack last) = 4
number_of reason.CutShort = 5

-- A PIECE

-- why a piece of so many bytes isn't read, if it isn't: a text begins before any other event
abbrev pub text_refusal_at : Session → ℕ → Option CallRefusal
text_refusal_at s len =
    if s.spent then Some refused.NoMemory
    else if nat_lt (2 ^ 60) (given_at s + len) then Some refused.Exhausted
    else if has_text s then None
    else if nat_lt 0 (core.steps s.cache) || nat_lt 0 (bytes_received s.cache) then Some refused.Late
    else None

-- how a cache answers
abbrev pub answers : {B : Type 0} {g : Ghosts B} → Cache B g → ℕ → Event → List Act → Cache B g → Type 0
answers s now event acts u = Answers s u now event acts

-- The text led from one reading to another, and its events from one cache to another, each answered in turn. The report is that of
-- the answers, numbered behind n entries. There are m entries then, unless the reading is stopped.
abbrev pub CacheBrings : {B : Type 0} {g : Ghosts B} → Cache B g → Cache B g → ℕ → ℕ → Progress → Progress → List ℕ → List ℕ → Type 0
CacheBrings {B} {g} s u n m p q text report = Brings (answers {B = B} {g = g}) n m p q text report s u

-- the text was handed in between the one and the other, in whatever pieces, and this is the report of all of them
abbrev pub IsReported : Session → Session → List ℕ → List ℕ → Type 0
IsReported s u text report = CacheBrings s.cache u.cache (entries_at s) (entries_at u) (progress_at s) (progress_at u) text report

-- A piece was read on, up to a line that is refused: each event that it brings was answered, and its report is that of their
-- answers. There is no act to tell.
pub record IsReadOn (s u : Session) (text : List ℕ) : Type 0 where
  pub reported : IsReported s u text (report_at u)
  pub ready : u.spent ≡ false
  pub goes_on : has_text u ≡ true
  pub no_acts : act_list u.acts ≡ []
  pub none_reported : u.reported ≡ 0

-- a line of the text is refused
pub record IsStoppedAt (u : Session) (r : Refused) : Type 0 where
  pub stands : progress_at u ≡ Stopped r
  pub told : refused_in u ≡ Some r

-- why a piece isn't read to its end, by why none is
abbrev pub HasTextCause : Option CallRefusal → Session → Session → List ℕ → CallRefusal → Type 0
HasTextCause (Some why) s u text e = e ≡ why
HasTextCause None s u text refused.NoMemory = Unit {0}
HasTextCause None s u text refused.BadText = IsReadOn s u text × ((r : Refused) × IsStoppedAt u r)
HasTextCause None s u text _ = ⊥

-- Where memory was refused nothing is answered any more. Else nothing has changed, unless a line is refused.
pub record IsUnread (s u : Session) (text : List ℕ) (e : CallRefusal) : Type 0 where
  pub cause : HasTextCause (text_refusal_at s (length text)) s u text e
  pub spent : e ≡ refused.NoMemory → IsSilent u
  pub kept : e ≢ refused.NoMemory → e ≢ refused.BadText → u ≡ s

abbrev pub IsRead : Session → Session → List ℕ → Result (Unit {0}) CallRefusal → Type 0
IsRead s u text (Ok done) =
    (text_refusal_at s (length text) ≡ None) × IsReadOn s u text × (is_reading (progress_at u) ≡ true)
IsRead s u text (Err e) = IsUnread s u text e

-- ITS END

-- The text ends here: its reading stands where that leads to, and nothing else has changed.
pub record IsEnded (s u : Session) : Type 0 where
  pub progress : progress_at u ≡ progress_at_end (progress_at s)
  pub entries : entries_at u ≡ entries_at s
  pub report : report_at u ≡ report_at s
  pub given : given_at u ≡ given_at s
  pub cache : u.cache ≡ s.cache
  pub ready : u.spent ≡ s.spent
  pub acts : act_list u.acts ≡ act_list s.acts
  pub reported : u.reported ≡ s.reported

-- why it doesn't end, by why no text is read
abbrev pub HasEndCause : Option CallRefusal → Session → Session → CallRefusal → Type 0
HasEndCause (Some why) s u e = e ≡ why
HasEndCause None s u refused.BadText = IsEnded s u × ((r : Refused) × (refusal_at (progress_at s) ≡ Some r) × IsStoppedAt u r)
HasEndCause None s u _ = ⊥

pub record IsUnended (s u : Session) (e : CallRefusal) : Type 0 where
  pub cause : HasEndCause (text_refusal_at s 0) s u e
  pub kept : e ≢ refused.BadText → u ≡ s

abbrev pub IsFinished : Session → Session → Result (Unit {0}) CallRefusal → Type 0
IsFinished s u (Ok done) = (text_refusal_at s 0 ≡ None) × IsEnded s u × (refusal_at (progress_at s) ≡ None)
IsFinished s u (Err e) = IsUnended s u e

-- WITHIN A PIECE

-- no event waits to be told, and no text is kept
pub record IsIdle (s : Session) : Type 0 where
  pub ready : s.spent ≡ false
  pub no_text : has_text s ≡ false
  pub no_acts : act_list s.acts ≡ []
  pub none_reported : s.reported ≡ 0

-- how a session answers an event of a text
abbrev pub AnswersInText : Session → ℕ → Event → List Act → Session → Type 0
AnswersInText s now event acts u = Answers s.cache u.cache now event acts × IsIdle u

-- the schedule of a session was taken, or a new one
pub record IsTaken (s u : Session) (t : Schedule) : Type 0 where
  pub cache : u.cache ≡ s.cache
  pub idle : IsIdle u
  pub progress : progress_in t ≡ progress_at s
  pub entries : entries_in t ≡ entries_at s
  pub given : given_in t ≡ given_at s
