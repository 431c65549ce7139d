-- What slots weigh, when a write is too large or the store full, and what gives way.
use Rattle.std.specs.Prelude.{ℕ, suc, ◌+◌, ◌-◌, nat_lt, nat_le, Bool, false, List, [], ◌∷◌, if◌then◌else◌, Option, Some, None}
use Rattle.std.specs.Option.{option_map}
use Rattle.hc_rules.specs.declared.room.Limits.{Limits}
use Rattle.hc_rules.specs.declared.room.Write.{Write}
use Rattle.hc_rules.specs.declared.room.Write.TheVariants as write
use Rattle.hc_rules.specs.declared.room.Room.{Room}
use Rattle.hc_rules.specs.declared.room.Room.TheVariants as room

-- a slot weighs 32,768 beside its body bytes
abbrev pub weight_of : ℕ → ℕ
weight_of stored = 32768 + stored

-- how much more the slots weigh after the write
abbrev pub grown_by : Write → ℕ
grown_by write.Slot = 32768
grown_by (write.Piece stored count) = count

-- the representation would have more bytes than it may
abbrev pub is_too_large : Limits → Write → Bool
is_too_large limits write.Slot = false
is_too_large limits (write.Piece stored count) = nat_lt limits.max_entry (stored + count)

-- how many, from the first on, are the fewest without which the sum is at most this
abbrev pub gives_way : ℕ → ℕ → List ℕ → Option ℕ
gives_way most sum [] = if nat_le sum most then Some 0 else None
gives_way most sum (weight ∷ idle) =
    if nat_le sum most then Some 0 else option_map suc (gives_way most (sum - weight) idle)

abbrev pub room_by : Option ℕ → Room
room_by None = room.Full
room_by (Some count) = room.After count

-- whether there is room for the write beside slots that weigh this in all, of which the idle ones weigh so much
unfoldable pub room_of : Limits → ℕ → Write → List ℕ → Room
room_of limits used write idle =
    if is_too_large limits write then room.TooLarge
    else room_by (gives_way limits.max_total (used + grown_by write) idle)
