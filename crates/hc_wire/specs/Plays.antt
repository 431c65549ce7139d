-- How a wire goes on with its script.
use Rattle.std.specs.Prelude.{◌≡◌, ◌⊎◌, ℕ, ◌+◌, ◌-◌, ◌<◌, ◌≤◌, ◌^◌, ◌==◌, min, true, false, List, drop, Option, Some, Result, IsErrOf, if◌then◌else◌}
use Rattle.hc_wire.specs.declared.event.WireEvent.{WireEvent}
use Rattle.hc_wire.specs.declared.event.WireError.{WireError}
use Rattle.hc_wire.specs.declared.event.WireError.TheVariants as error
use Rattle.hc_wire.specs.declared.script.ScriptWire.{ScriptWire}
use Rattle.hc_wire.specs.Events.{Stage, Unseen, got_bytes}
use Rattle.hc_wire.specs.Following.{Left, left_at, behind_past, behind_event, coming, bytes_left, is_listed, is_quiet, is_room}
use Rattle.hc_wire.specs.Logs.{Log}
use Rattle.hc_wire.specs.Stalls.{room_of}

-- what it tells of its calls
abbrev pub reported : ScriptWire → Option Log
reported w = Some (record {
  bound = w.bound.items;
  calls = w.calls.items;
  dialled = w.dialled.items;
  takers = w.connections.items;
})

-- what is left of the script
abbrev pub script_left : ScriptWire → Left
script_left w = left_at w.script.items w.at w.off

-- the same behind what is passed over
abbrev pub script_due : ScriptWire → Left
script_due w = behind_past w.connections.items (drop w.at w.script.items) w.off

-- the moment and the event that come next, where there is room for so many bytes
abbrev pub script_next : ScriptWire → ℕ → ℕ × WireEvent
script_next w room = coming w.connections.items w.moment room (script_due w)

-- nothing comes but a Quiet
abbrev pub IsIdle : ScriptWire → Type 0
IsIdle w = is_quiet (script_next w 1).1 ≡ true

-- What a wire has of its script, and which calls are to fail, stays.
pub record KeepsScript (w u : ScriptWire) : Type 0 where
  pub script : u.script ≡ w.script
  pub at : u.at ≡ w.at
  pub off : u.off ≡ w.off
  pub last : u.moment ≡ w.moment
  pub fails : u.fails ≡ w.fails

-- The event that comes was handed out at its moment, with its bytes, and the script goes on behind it. A stall ends at its `Room`.
pub record HandsOut (w u : ScriptWire) (room : ℕ) (what : ℕ × WireEvent) (into : List ℕ) : Type 0 where
  pub comes : what ≡ script_next w room
  pub bytes : got_bytes what.1 into ≡ got_bytes what.1 (bytes_left (script_due w))
  pub script : u.script ≡ w.script
  pub left : script_left u ≡ behind_event what.1 (script_due w)
  pub last : u.moment ≡ what.0
  pub fails : u.fails ≡ w.fails
  pub stalls : (k len : ℕ) → room_of u k len ≡ (if is_room k what.1 then len else room_of w k len)

-- The connection took so many bytes: its stall is used up by as many.
pub record UsesUp (w u : ScriptWire) (k n : ℕ) : Type 0 where
  pub stall : (len : ℕ) → room_of u k len ≡ room_of w k (n + len) - n
  pub others : (j len : ℕ) → (k == j) ≡ false → room_of u j len ≡ room_of w j len

-- One more than the greatest number that was handed out, and 1 where none was.
pub record IsNextNumber (stages : ℕ → Stage) (k : ℕ) : Type 0 where
  pub some : 0 < k
  pub above : (j : ℕ) → k ≤ j → stages j ≡ Unseen
  pub least : (j : ℕ) → k ≡ j + 1 → stages j ≡ Unseen → j ≡ 0

-- the number of the next call that may fail, from 1; the last number stays
abbrev pub next_call : ScriptWire → ℕ
next_call w = min (w.count + 1) (2 ^ 64 - 1)

-- A call is counted. It fails where it is listed, and else only for such a cause.
pub record FailsAsListed {T : Type 0} (w u : ScriptWire) (cause : Type 0) (result : Result T WireError) : Type 0 where
  pub counted : u.count ≡ next_call w
  pub listed : is_listed (next_call w) w.fails.items ≡ true → IsErrOf result error.WireFailed
  pub failed : IsErrOf result error.WireFailed → (is_listed (next_call w) w.fails.items ≡ true) ⊎ cause
