-- Laws of schedules.
use Rattle.std.specs.Prelude.{◌≡◌, ◌≢◌, ℕ, ◌+◌, ◌≤◌, List, [], ◌∷◌, ◌++◌, Option, Some, None, if◌then◌else◌}
use Rattle.hc_sched.specs.declared.place.Place.{Place}
use Rattle.hc_sched.specs.declared.schedule.Refused.{Refused}
use Rattle.hc_sched.specs.declared.schedule.SchedRefusal.TheVariants as why
use Rattle.hc_sched.specs.declared.schedule.Timed.{Timed}
use Rattle.hc_sched.specs.Reading.{Progress, Reads, Stopped, Spent, after, events_in, refusal_of, beginning, is_between}
use Rattle.hc_sched.specs.Schedule.{Item, IsEvent, IsSmall, IsSchedule, Spells, text_of, events_of, timed_text}

-- between two items, behind so many lines
abbrev pub at_rest : ℕ → ℕ → Place
at_rest moment lines = record { moment = moment; lines = lines; begun = None }

-- the bytes lead from one reading to another, and bring these events
pub record Gives (s : Progress) (text : List ℕ) (t : Progress) (events : List Timed) : Type 0 where
  pub leads : after s text ≡ t
  pub brings : events_in s text ≡ events

-- The text of an event behind a moment is read back as that event, wherever it stands behind that
-- moment, and then its own moment is the last one.
abbrev pub IsReadBack : ℕ → Timed → Type 0
IsReadBack last timed =
    (lines : ℕ) → (more : ℕ)
    × Gives (Reads (at_rest last lines) []) (timed_text last timed)
    (Reads (at_rest timed.now more) []) (timed ∷ [])

-- The text begins with these items of a schedule, and brings their events.
pub record HasRead (now : ℕ) (text : List ℕ) (events : List Timed) : Type 0 where
  pub items : List Item
  pub rest : List ℕ
  pub schedule : IsSchedule now items
  pub whole : text_of items ++ rest ≡ text
  pub events_are : events ≡ events_of now items

-- a text brings the events of items that it begins with, and no other events, refused or not
abbrev pub BringsItems : Type 0
BringsItems = (now : ℕ) (text : List ℕ) → HasRead now text (events_in (beginning now) text)

-- it brings those of all of them: whatever follows, the events of these items come first
abbrev pub BringsAllItems : Type 0
BringsAllItems =
    (now : ℕ) (items : List Item) (rest : List ℕ) → IsSchedule now items
    → (more : List Timed)
    × (events_in (beginning now) (text_of items ++ rest) ≡ events_of now items ++ more)

-- events that have a spelling behind a moment, and whose moments don't go back
abbrev pub AreTimed : ℕ → List Timed → Type 0
AreTimed last [] = Unit {0}
AreTimed last (timed ∷ events) =
    IsEvent timed.event × IsSmall timed.now × (last ≤ timed.now) × AreTimed timed.now events

-- a text brings such events
abbrev pub BringsTimed : Type 0
BringsTimed =
    (now : ℕ) (text : List ℕ) → IsSmall now → AreTimed now (events_in (beginning now) text)

-- a text that spells items isn't refused, and brings their events
abbrev pub IsReadAsSpelled : Type 0
IsReadAsSpelled =
    (now : ℕ) (text : List ℕ) (items : List Item) → Spells now text items
    → (refusal_of now text ≡ None) × (events_in (beginning now) text ≡ events_of now items)

-- a text that isn't refused spells items
abbrev pub IsSpelledAsRead : Type 0
IsSpelledAsRead =
    (now : ℕ) (text : List ℕ) → refusal_of now text ≡ None
    → (items : List Item) × Spells now text items

-- a text spells one list of items at most
abbrev pub HasOneSpelling : Type 0
HasOneSpelling =
    (now : ℕ) (text : List ℕ) (xs ys : List Item) → Spells now text xs → Spells now text ys
    → xs ≡ ys

-- a refused text stays refused so, whatever follows, but for one that is cut short
abbrev pub StaysRefused : Type 0
StaysRefused =
    (now : ℕ) (text more : List ℕ) (refused : Refused) → refusal_of now text ≡ Some refused
    → refused.why ≢ why.CutShort
    → refusal_of now (text ++ more) ≡ Some refused

-- a text is read piece by piece
abbrev pub IsReadPiecewise : Type 0
IsReadPiecewise = (s : Progress) (xs ys : List ℕ)
    → (after s (xs ++ ys) ≡ after (after s xs) ys)
    × (events_in s (xs ++ ys) ≡ events_in s xs ++ events_in (after s xs) ys)
