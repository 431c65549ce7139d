-- How the reading of a schedule ends, whatever its events go through.
use Rattle.std.specs.Prelude.{◌≡◌, ℕ, ◌≤◌, List, ◌∷◌, ◌++◌, length, Option, Some}
use Rattle.hc_io.specs.Source.{Gives, GivesAll}
use Rattle.hc_sched.specs.declared.place.Place.{Place}
use Rattle.hc_sched.specs.declared.schedule.Ended.{Ended}
use Rattle.hc_sched.specs.declared.schedule.Ended.TheVariants as ended
use Rattle.hc_sched.specs.declared.schedule.Refused.{Refused}
use Rattle.hc_sched.specs.declared.schedule.Timed.{Timed}
use Rattle.hc_sched.specs.Reading.{Progress, Reads, after, events_in, beginning, refusal_of}
use Rattle.hc_sched.specs.Schedule.{Item, Spells, events_of}

-- HOW FAR A TEXT WAS READ

-- To its end, or so far that no more had to be known.
pub data Reach : Type 0 where
  ToEnd : Reach
  SoFar : Reach

-- what a source had left before and after, where this text was read
abbrev pub IsRead : Reach → Option (List ℕ) → Option (List ℕ) → List ℕ → Type 0
IsRead ToEnd left left' text = GivesAll left left' text
IsRead SoFar left left' text = Gives left left' text

-- the reading wasn't stopped
abbrev pub IsReading : Progress → Type 0
IsReading progress = (place : Place) × (line : List ℕ) × (progress ≡ Reads place line)

-- what a text brings that begins at this moment
abbrev pub events_from : ℕ → List ℕ → List Timed
events_from moment text = events_in (beginning moment) text

-- WHERE IT IS REFUSED

-- no line of a text is refused
abbrev pub IsUnrefused : ℕ → List ℕ → Type 0
IsUnrefused moment text = IsReading (after (beginning moment) text)

-- a text is refused so, whatever follows it
abbrev pub IsRefused : ℕ → List ℕ → Refused → Type 0
IsRefused moment text refused = (more : List ℕ) → refusal_of moment (text ++ more) ≡ Some refused

-- A text is refused so, and none of its lines was before its last piece came, of at most 16,384 bytes.
pub record IsRefusedAtOnce (moment : ℕ) (text : List ℕ) (refused : Refused) : Type 0 where
  pub before : List ℕ
  pub piece : List ℕ
  pub whole : before ++ piece ≡ text
  pub short : length piece ≤ 16384
  pub unrefused : IsUnrefused moment before
  pub refuses : IsRefused moment text refused

-- What was read is refused: in the last piece of it, or since it is cut short where it ends.
pub data IsRefusedIn (moment : ℕ) (text : List ℕ) (refused : Refused) : Reach → Type 0 where
  within : IsRefusedAtOnce moment text refused → IsRefusedIn moment text refused SoFar
  at_end : IsUnrefused moment text → refusal_of moment text ≡ Some refused → IsRefusedIn moment text refused ToEnd

-- WHAT CAME OF ITS EVENTS

-- The first events of a text and the rest of them: all that it brings before its last piece, of at most 16,384 bytes, are
-- among the first ones.
pub record IsSteppedAtOnce (moment : ℕ) (text : List ℕ) (first rest : List Timed) : Type 0 where
  pub before : List ℕ
  pub piece : List ℕ
  pub more : List Timed
  pub whole : before ++ piece ≡ text
  pub short : length piece ≤ 16384
  pub all_before : events_from moment before ++ more ≡ first
  pub are_all : first ++ rest ≡ events_from moment text

-- How far events were answered, and the answers written.
pub data How : Type 0 where
  -- each was answered, and all of the answers were taken
  Wholly : How
  -- so too, and there nothing more is answered
  UpToEnd : How
  -- each was answered, and all of the answers were taken but for a last part of the last one
  UpToLast : How
  -- each was answered, all of the answers were taken, and the answer to the next event was refused memory
  UpToWant : How

-- How the reading of a schedule from this moment on ended, where `Went` says which events went how far.
pub data Ends (Went : How → List Timed → Type 0) (moment : ℕ) (left left' : Option (List ℕ)) : Ended → Type 0 where
  -- the whole text spells items
  done : (text : List ℕ) (items : List Item) → GivesAll left left' text → Spells moment text items →
      Went Wholly (events_of moment items) → Ends Went moment left left' ended.Done
  -- nothing more was answered behind some first events
  over : (text : List ℕ) (first rest : List Timed) → Gives left left' text → IsSteppedAtOnce moment text first rest →
      Went UpToEnd first → Ends Went moment left left' ended.Done
  refused : (reach : Reach) (text : List ℕ) (refused : Refused) → IsRead reach left left' text →
      IsRefusedIn moment text refused reach → Went Wholly (events_from moment text) →
      Ends Went moment left left' (ended.Refused refused)
  -- no line is refused of what could be read
  unreadable : (text : List ℕ) → Gives left left' text → IsUnrefused moment text → Went Wholly (events_from moment text) →
      Ends Went moment left left' ended.SourceFailed
  unwritten : (text : List ℕ) (first rest : List Timed) → Gives left left' text → IsSteppedAtOnce moment text first rest →
      Went UpToLast first → Ends Went moment left left' ended.SinkFailed
  -- memory was refused outside of the answers, or for the next one
  wanting : (text : List ℕ) (first rest : List Timed) → Gives left left' text → IsSteppedAtOnce moment text first rest →
      Went UpToLast first → Ends Went moment left left' ended.NoMemory
  wanting_answer : (text : List ℕ) (first rest : List Timed) (next : Timed) → Gives left left' text →
      IsSteppedAtOnce moment text first (next ∷ rest) → Went UpToWant first → Ends Went moment left left' ended.NoMemory
