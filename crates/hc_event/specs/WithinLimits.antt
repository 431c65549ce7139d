-- What an event is within that has a spelling.
use Rattle.std.specs.Prelude.{◌≡◌, ℕ, ◌<◌, ◌≤◌, ◌^◌, true, length}
use Rattle.hc_event.specs.declared.event.Event.{Event}
use Rattle.hc_event.specs.declared.event.Event.TheVariants as event
use Rattle.hc_fields.specs.FieldList.{IsWithinLimits}
use Rattle.hc_target.specs.Targets.{is_target}

-- who starts has a number below 2 ^ 62 and asks for a target, a request and a head have few and small fields, and a piece
-- has at most 65,536 bytes
abbrev pub IsEventWithinLimits : Event → Type 0
IsEventWithinLimits (event.Start c request) =
    (c < 2 ^ 62) × (is_target request.key ≡ true) × IsWithinLimits request.fields
IsEventWithinLimits (event.Head x response) = IsWithinLimits response.fields
IsEventWithinLimits (event.Piece x bytes) = length bytes ≤ 65536
IsEventWithinLimits _ = Unit {0}
