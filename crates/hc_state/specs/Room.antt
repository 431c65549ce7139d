-- What gives way to a write.
use Rattle.std.specs.Prelude.{◌≡◌, ℕ, ◌+◌, ◌≤◌, List, ◌++◌, map, Option, Some, None}
use Rattle.hc_rules.specs.declared.room.Limits.{Limits}
use Rattle.hc_store.specs.declared.backend.Backend.{Ghosts}
use Rattle.hc_store.specs.declared.error.StoreError.{StoreError}
use Rattle.hc_store.specs.declared.error.StoreError.TheVariants as errors
use Rattle.hc_event.specs.declared.act.Act.{Act}
use Rattle.hc_event.specs.declared.act.Act.TheVariants as act
use Rattle.hc_event.specs.declared.act.LostKind.{LostKind}
use Rattle.hc_event.specs.declared.act.LostKind.TheVariants as kind
use Rattle.hc_rules.specs.declared.room.Room.{Room}
use Rattle.hc_rules.specs.declared.room.Room.TheVariants as room
use Rattle.hc_rules.specs.declared.room.Write.{Write}
use Rattle.hc_rules.specs.Rooms.{room_of}
use Rattle.hc_stored.specs.Entries.{shelf_of}
use Rattle.hc_stored.specs.Shelf.{Shelf, idle, weight_at}
use Rattle.hc_model.specs.Effects.{let_all_go}
use Rattle.hc_model.specs.Rows.{Tables}
use Rattle.hc_state.specs.declared.rows.Rows.{Rows}
use Rattle.hc_state.specs.Stands.{RowsStand}

abbrev pub room_on : Shelf → Write → Room
room_on s write = room_of s.limits s.used write (map (weight_at s) (idle s))

-- whether there is room for a write
abbrev pub room_for_write : {B : Type 0} {g : Ghosts B} → Rows B g → Write → Room
room_for_write r write = room_on (shelf_of r.entries) write

-- the acts of those that give way fit
abbrev pub HasActs : ℕ → Room → Type 0
HasActs spare (room.After count) = count ≤ spare
HasActs spare _ = Unit {0}

-- and no more than these fit no more
abbrev pub LeavesActs : ℕ → ℕ → Room → Type 0
LeavesActs before after (room.After count) = before ≤ after + count
LeavesActs before after _ = after ≡ before

-- acts were appended, if any
abbrev pub Appends : List Act → List Act → Type 0
Appends before out = (acts : List Act) × (out ≡ before ++ acts)

-- why what the store refuses is lost. Want of memory is no loss
abbrev pub loss_by : StoreError → Option LostKind
loss_by errors.Fault = Some kind.Fault
loss_by errors.TooLarge = Some kind.TooLarge
loss_by errors.Full = Some kind.Full
loss_by errors.NoMemory = None

-- These are evicted, one after another: it is told, and the rows represent the tables without them.
pub record GivesWay {B : Type 0} {g : Ghosts B} (limits : Limits) (u : Rows B g) (t : Tables) (now : ℕ) (rs : List ℕ)
    (before out : List Act) : Type 0 where
  pub acts : out ≡ before ++ map act.Evicted rs
  pub rows : RowsStand limits u (let_all_go now rs t)
