-- Runs: histories in which each entry has the acts that the entries before it owe.
use Rattle.std.specs.Prelude.{◌≡◌, ◌≤◌, ℕ, [], ◌∷◌, Bool, true, false, Option, Some, None, ◌||◌, ◌&&◌, not}
use Rattle.hc_event.specs.Filters.{is_denied}
use Rattle.hc_event.specs.declared.event.Event.{Event}
use Rattle.hc_event.specs.declared.event.Event.TheVariants as event
use Rattle.hc_event.specs.declared.act.LostKind.{LostKind}
use Rattle.hc_event.specs.declared.act.LostKind.TheVariants as kind
use Rattle.hc_rules.specs.declared.room.Limits.{Limits}
use Rattle.hc_rules.specs.declared.room.Room.{Room}
use Rattle.hc_rules.specs.declared.room.Room.TheVariants as room
use Rattle.hc_model.specs.Entries.{Entry, History, Contents, entry_without_acts}
use Rattle.hc_model.specs.Flaws.{Flaw, NoFlaw, Loses, Misreads, flaw_in, failures_in}
use Rattle.hc_model.specs.Rows.{Tables, Representation, Consumer}
use Rattle.hc_model.specs.Currents.{is_current, is_number}
use Rattle.hc_model.specs.Reading.{is_bound}
use Rattle.hc_model.specs.Tables.{tables}
use Rattle.hc_model.specs.Weights.{room_for}
use Rattle.hc_model.specs.Answers.{answer}
use Rattle.hc_model.specs.Writes.{written_representation}

-- WHAT MAY FAIL

-- a loss by the sizes comes exactly where they are passed; a fault may come in its place
abbrev pub may_lose : Room → LostKind → Bool
may_lose place kind.Fault = true
may_lose room.TooLarge kind.TooLarge = true
may_lose room.Full kind.Full = true
may_lose _ _ = false

abbrev pub has_room : Room → Bool
has_room (room.After count) = true
has_room _ = false

abbrev pub is_kept : Option Representation → Bool
is_kept None = true
is_kept (Some v) = not v.is_lost

-- what a poll may read: that to which its consumer is bound, and what is current for its key
abbrev pub is_near : Tables → ℕ → Option Consumer → Bool
is_near t r None = false
is_near t r (Some k) = is_bound r (Some k) || is_current t k.request.key r

abbrev pub may_misread : Tables → ℕ → Event → Bool
may_misread t r (event.Poll c want) = is_near t r (t.consumer c)
may_misread t r _ = false

-- a write fails only of what is written, and once; a read only at a poll that may read it
abbrev pub may_be : Limits → Tables → Entry → Flaw → Bool
may_be limits t e NoFlaw = has_room (room_for limits t e.now e.event)
may_be limits t e (Loses r kind) =
    is_number (written_representation t e) r && is_kept (t.representation r)
    && may_lose (room_for limits t e.now e.event) kind
may_be limits t e (Misreads r) = may_misread t r e.event

-- a store may fail as the acts show
unfoldable pub may_stand : Limits → Tables → Entry → Bool
may_stand limits t e = is_denied e.acts || may_be limits t e (flaw_in e.acts)

-- RUNS

-- an entry is owed by the tables before it
pub record IsOwed (limits : Limits) (t : Tables) (e : Entry) : Type 0 where
  pub later : t.moment ≤ e.now
  pub acts : e.acts ≡ answer limits t e.now e.event (flaw_in e.acts)
  pub flaw : may_stand limits t e ≡ true

-- each entry is owed by those before it
abbrev pub IsRun : Limits → Contents → History → Type 0
IsRun limits contents [] = Unit {0}
IsRun limits contents (e ∷ h) = IsRun limits contents h × IsOwed limits (tables contents h) e

-- A STORE THAT DOESN'T FAIL

abbrev pub flaw_by_room : Room → Option ℕ → Flaw
flaw_by_room room.TooLarge (Some r) = Loses r kind.TooLarge
flaw_by_room room.Full (Some r) = Loses r kind.Full
flaw_by_room _ r = NoFlaw

-- what the sizes refuse
abbrev pub size_flaw : Limits → Tables → ℕ → Event → Flaw
size_flaw limits t now event =
    flaw_by_room (room_for limits t now event)
    (written_representation t (entry_without_acts now event))

-- the entry that is owed to an event, where the store fails in nothing else
unfoldable pub owed : Limits → Tables → ℕ → Event → Entry
owed limits t now event = record {
  now = now;
  event = event;
  acts = answer limits t now event (size_flaw limits t now event);
}

-- An entry that tells no failure of the store is that one.
abbrev pub FaultlessAreOwed : Type 0
FaultlessAreOwed =
    (limits : Limits) (t : Tables) (e : Entry) → IsOwed limits t e → failures_in e.acts ≡ 0 →
    e ≡ owed limits t e.now e.event

-- What such a store owes is one of the entries with which a run may go on.
abbrev pub OwedIsOwed : Limits → Tables → Type 0
OwedIsOwed limits t =
    (now : ℕ) (event : Event) → t.moment ≤ now → IsOwed limits t (owed limits t now event)
