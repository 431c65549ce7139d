-- What makes room comes last: an entry does what it does without it, and then each of what it evicts goes, one after another.
use Rattle.std.specs.Prelude.{◌≡◌, ℕ, ◌+◌, ◌-◌, ◌<◌, ◌≤◌, List, [], ◌∷◌, ◌++◌, length, map, filter, Bool, true, false, Option, Some, None, if◌then◌else◌, ◌==◌, not}
use Rattle.std.specs.List.{sum_by}
use Rattle.hc_event.specs.declared.act.Act.{Act}
use Rattle.hc_event.specs.declared.act.Act.TheVariants as act
use Rattle.hc_event.specs.declared.event.Event.{Event}
use Rattle.hc_rules.specs.declared.room.Limits.{Limits}
use Rattle.hc_rules.specs.declared.room.Room.TheVariants as room
use Rattle.hc_rules.specs.declared.room.Write.{Write}
use Rattle.hc_rules.specs.Rooms.{grown_by, is_too_large}
use Rattle.hc_model.specs.Answers.{accepted_acts, answer_acts, loss_acts, close_acts, is_asked}
use Rattle.hc_model.specs.Contents.{idle_now}
use Rattle.hc_model.specs.Currents.{current}
use Rattle.hc_model.specs.Denials.{denial, live}
use Rattle.hc_model.specs.Effects.{let_go, let_all_go}
use Rattle.hc_model.specs.Entries.{Entry, entry_without_acts}
use Rattle.hc_model.specs.Flaws.{Flaw, flaw_in}
use Rattle.hc_model.specs.Gone.{goes_itself}
use Rattle.hc_model.specs.Keys.{entry_of}
use Rattle.hc_model.specs.Owners.{Owners}
use Rattle.hc_model.specs.Reading.{bound}
use Rattle.hc_model.specs.Rows.{Tables, Representation}
use Rattle.hc_model.specs.Runs.{may_be}
use Rattle.hc_model.specs.Sound.{Sound, OneCurrent}
use Rattle.hc_model.specs.Tables.{after_accepted}
use Rattle.hc_model.specs.Weights.{weight, weights, idle, write_in, room_for, evicted}

-- WHAT AN EVICTION DOES

-- r is let go at the moment of these tables
abbrev pub evict : ℕ → Tables → Tables
evict r t = let_go t.moment r t

-- one after another
abbrev pub evict_all : List ℕ → Tables → Tables
evict_all rs t = let_all_go t.moment rs t

abbrev pub unless_it : ℕ → Option ℕ → Option ℕ
unless_it r None = None
unless_it r (Some q) = if q == r then None else Some q

-- what is current but for r, who is bound, and how many are live
pub record EvictedTables (t : Tables) (r : ℕ) : Type 0 where
  pub current_is : (key : List ℕ) → current (evict r t) key ≡ unless_it r (current t key)
  pub bound_is : (q : ℕ) → bound (evict r t) q ≡ bound t q
  pub live_is : live (evict r t) ≡ live t
  pub one_current : OneCurrent (evict r t)

abbrev pub EvictsOne : Type 0
EvictsOne = (t : Tables) (r : ℕ) → OneCurrent t → EvictedTables t r

-- of each key one representation at most isn't gone after any entry, also one without its evictions
abbrev pub AnyLeavesOneCurrent : Type 0
AnyLeavesOneCurrent = (t : Tables) (e : Entry) → Sound t → OneCurrent (after_accepted t e)

-- AN ENTRY WITHOUT ITS EVICTIONS

-- the acts that are owed but for what makes room
abbrev pub unevicting : Tables → ℕ → Event → Flaw → List Act
unevicting t now event flaw =
    if is_asked event then answer_acts t now event flaw ++ (close_acts t now event flaw ++ loss_acts flaw)
    else loss_acts flaw ++ close_acts t now event flaw

abbrev pub unevicting_entry : Tables → ℕ → Event → Flaw → Entry
unevicting_entry t now event flaw =
    record { now = now; event = event; acts = unevicting t now event flaw }

-- What makes room is told first, is no matter to the flaw that is shown and those that may stand, and is done last.
pub record EvictsLast (limits : Limits) (t : Tables) (now : ℕ) (event : Event) (flaw : Flaw) :
    Type 0 where
  pub acts : accepted_acts limits t now event flaw
      ≡ map act.Evicted (evicted limits t now event) ++ unevicting t now event flaw
  pub shown : flaw_in (accepted_acts limits t now event flaw) ≡ flaw_in (unevicting t now event flaw)
  pub may : (other : Flaw) → may_be limits t (entry_of limits t now event flaw) other
      ≡ may_be limits t (unevicting_entry t now event flaw) other
  pub tables : after_accepted t (entry_of limits t now event flaw)
      ≡ evict_all (evicted limits t now event)
      (after_accepted t (unevicting_entry t now event flaw))

abbrev pub EvictionsComeLast : Type 0
EvictionsComeLast =
    (limits : Limits) (t : Tables) (now : ℕ) (event : Event) (flaw : Flaw) → Sound t → Owners t →
    denial t event ≡ None → EvictsLast limits t now event flaw

-- WHAT GIVES WAY

abbrev pub outlasts_row : Tables → Entry → ℕ → Option Representation → Bool
outlasts_row t e r None = true
outlasts_row t e r (Some v) = not (goes_itself t e r v)

-- the event itself doesn't make it gone
abbrev pub outlasts : Tables → Entry → ℕ → Bool
outlasts t e r = outlasts_row t e r (t.representation r)

-- what is idle at an event: those that were, but for what the event itself makes gone
abbrev pub IdleButGone : Type 0
IdleButGone =
    (t : Tables) (now : ℕ) (event : Event) → Sound t → Owners t → denial t event ≡ None →
    idle t (entry_without_acts now event) ≡ filter (outlasts t (entry_without_acts now event)) (idle_now t)

-- Of these idle ones those give way: while the sum of all passes the most, the first one goes.
pub data GivesWay (weight : ℕ → ℕ) (most : ℕ) : ℕ → List ℕ → List ℕ → Type 0 where
  fits : (sum : ℕ) (idle : List ℕ) → sum ≤ most → GivesWay weight most sum idle []
  goes : (sum r : ℕ) (idle gone : List ℕ) → most < sum →
      GivesWay weight most (sum - weight r) idle gone →
      GivesWay weight most sum (r ∷ idle) (r ∷ gone)

-- where this write isn't too large and those give way to it, just those are evicted
abbrev pub MakesRoom : Type 0
MakesRoom =
    (limits : Limits) (t : Tables) (now : ℕ) (event : Event) (w : Write) (gone : List ℕ) →
    write_in t (entry_without_acts now event) event ≡ Some w → is_too_large limits w ≡ false →
    GivesWay (weight t (entry_without_acts now event)) limits.max_total
    (weights t (entry_without_acts now event) + grown_by w) (idle t (entry_without_acts now event)) gone →
    (room_for limits t now event ≡ room.After (length gone)) × (evicted limits t now event ≡ gone)

-- and some do, unless even all of them are too little
abbrev pub SomeGiveWay : Type 0
SomeGiveWay =
    (weight : ℕ → ℕ) (most sum : ℕ) (idle : List ℕ) → sum ≤ most + sum_by weight idle →
    (gone : List ℕ) × GivesWay weight most sum idle gone

-- where it passes the limit even without all that is idle, none is
abbrev pub HasNoRoom : Type 0
HasNoRoom =
    (limits : Limits) (t : Tables) (now : ℕ) (event : Event) (w : Write) →
    write_in t (entry_without_acts now event) event ≡ Some w → is_too_large limits w ≡ false →
    limits.max_total + sum_by (weight t (entry_without_acts now event)) (idle t (entry_without_acts now event))
    < weights t (entry_without_acts now event) + grown_by w →
    (room_for limits t now event ≡ room.Full) × (evicted limits t now event ≡ [])

-- nor where the write is too large
abbrev pub HasTooLarge : Type 0
HasTooLarge =
    (limits : Limits) (t : Tables) (now : ℕ) (event : Event) (w : Write) →
    write_in t (entry_without_acts now event) event ≡ Some w → is_too_large limits w ≡ true →
    (room_for limits t now event ≡ room.TooLarge) × (evicted limits t now event ≡ [])

-- nor where nothing is written
abbrev pub WritesNothing : Type 0
WritesNothing =
    (limits : Limits) (t : Tables) (now : ℕ) (event : Event) →
    write_in t (entry_without_acts now event) event ≡ None →
    (room_for limits t now event ≡ room.After 0) × (evicted limits t now event ≡ [])
