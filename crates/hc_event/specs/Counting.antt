-- How much an event brings.
use Rattle.std.specs.Prelude.{ℕ, length}
use Rattle.hc_event.specs.declared.event.Event.{Event}
use Rattle.hc_event.specs.declared.event.Event.TheVariants as event

-- how many bytes a piece has
abbrev pub received_in : Event → ℕ
received_in (event.Piece x bytes) = length bytes
received_in _ = 0
