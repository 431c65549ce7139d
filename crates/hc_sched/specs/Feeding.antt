-- What a feed stands for, and what it makes of the pieces that it is given.
use Rattle.std.specs.Prelude.{◌≡◌, ℕ, ◌+◌, ◌≤◌, ◌==◌, ◌&&◌, Bool, is_none, nat_lt, List, [], ◌++◌, length, Option, Some, None, Result, Ok, Err, if◌then◌else◌}
use Rattle.hc_sched.specs.declared.begun.Begun.{Begun}
use Rattle.hc_sched.specs.declared.place.Place.{Place}
use Rattle.hc_sched.specs.declared.reader.Reader.{Reader}
use Rattle.hc_sched.specs.declared.schedule.FeedError.{FeedError}
use Rattle.hc_sched.specs.declared.schedule.FeedError.TheVariants as error
use Rattle.hc_sched.specs.declared.schedule.SchedRefusal.TheVariants as why
use Rattle.hc_sched.specs.declared.schedule.Timed.{Timed}
use Rattle.hc_sched.specs.Limits.{MayBegun}
use Rattle.hc_sched.specs.Reading.{Progress, Reads, Stopped, Spent, Step, first_place, refuse, take_line, after, events_in, is_between}

-- what a feed stands for, by its error
abbrev pub progress_of : Option FeedError → Reader → Progress
progress_of None reader = Reads reader.place reader.line.items
progress_of (Some (error.Refused refused)) reader = Stopped refused
progress_of (Some error.NoMemory) reader = Spent

-- where the reading stands at an error
abbrev pub stopped_by : FeedError → Progress
stopped_by (error.Refused refused) = Stopped refused
stopped_by error.NoMemory = Spent

-- no line is too long, and no item too large
pub record IsWithin (reader : Reader) : Type 0 where
  pub line : length reader.line.items ≤ 140000
  pub item : MayBegun reader.place.begun

-- the lines that are passed
abbrev pub lines_in : Progress → ℕ
lines_in (Reads place line) = place.lines
lines_in (Stopped refused) = 0
lines_in Spent = 0

-- the bytes of the lines of the item that was begun
abbrev pub bytes_before : Option Begun → ℕ
bytes_before None = 0
bytes_before (Some begun) = begun.bytes

-- the bytes of the item that isn't finished
abbrev pub held_in : Progress → ℕ
held_in (Reads place line) = bytes_before place.begun + length line
held_in (Stopped refused) = 0
held_in Spent = 0

-- the first of the events that these bytes bring were added
pub record AddsFirst (progress : Progress) (piece : List ℕ) (old new : List Timed) : Type 0 where
  pub some : List Timed
  pub rest : List Timed
  pub whole : some ++ rest ≡ events_in progress piece
  pub adds : new ≡ old ++ some

-- the events that these bytes bring were added, and the reading stands where they lead
pub record ReadsOn (s : Progress) (piece : List ℕ) (t : Progress) (old new : List Timed)
    : Type 0 where
  pub leads : after s piece ≡ t
  pub adds : new ≡ old ++ events_in s piece

-- The pieces are read, up to the refusal where there is one.
abbrev pub Feeds
    : Progress → List ℕ → Result (Unit {0}) FeedError → Progress → List Timed → List Timed → Type 0
Feeds s piece (Ok done) t old new = ReadsOn s piece t old new
Feeds s piece (Err (error.Refused refused)) t old new = ReadsOn s piece (Stopped refused) old new
Feeds s piece (Err error.NoMemory) t old new = AddsFirst s piece old new

-- after an error it is answered again
abbrev pub AnswersAgain : Progress → Result (Unit {0}) FeedError → Type 0
AnswersAgain (Reads place line) result = Unit {0}
AnswersAgain (Stopped refused) result = result ≡ Err (error.Refused refused)
AnswersAgain Spent result = result ≡ Err error.NoMemory

-- what stands behind the error
abbrev pub StandsAt : Result (Unit {0}) FeedError → Progress → Type 0
StandsAt (Ok done) progress = (place : Place) × (line : List ℕ) × (progress ≡ Reads place line)
StandsAt (Err (error.Refused refused)) progress = progress ≡ Stopped refused
StandsAt (Err error.NoMemory) progress = progress ≡ Spent

-- a whole line that comes behind these bytes of it
unfoldable pub join_line : Place → List ℕ → Step
join_line place line =
    if nat_lt 140000 (length line) then refuse place why.LineTooLong else take_line place line

-- the refusal of a text that ends here
abbrev pub ending : Progress → Result (Unit {0}) FeedError
ending (Reads place line) =
    if is_between place line then Ok tt
    else Err (error.Refused (record { line = place.lines + 1; why = why.CutShort }))
ending (Stopped refused) = Err (error.Refused refused)
ending Spent = Err error.NoMemory

-- where the reading stands then
abbrev pub progress_at_end : Progress → Progress
progress_at_end (Reads place line) =
    if is_between place line then Reads place line
    else Stopped (record { line = place.lines + 1; why = why.CutShort })
progress_at_end (Stopped refused) = Stopped refused
progress_at_end Spent = Spent
