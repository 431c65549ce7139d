-- How many bytes a connection of a script takes.
use Rattle.std.specs.Prelude.{ℕ}
use Rattle.hc_wire.specs.declared.script.ScriptWire.{ScriptWire}
use Rattle.hc_wire.specs.Following.{room_in}

-- of so many bytes, how many the connection takes now
abbrev pub room_of : ScriptWire → ℕ → ℕ → ℕ
room_of w k len = room_in w.stalls.items k len
