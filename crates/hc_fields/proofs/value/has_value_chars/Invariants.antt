use Rattle.std.{proofs.Common.{◌≡◌, ◌+◌, ◌-◌, ◌≤◌, take, drop}, specs.{Prelude.{◌&&◌}, List.{list_all}}}
use Rattle.http_header.specs.Token.{is_value_byte}
use Rattle.hc_fields.proofs.value.has_value_chars.Given as goal

abbrev pub invariant-loop-at : goal.invariant-loop-at
invariant-loop-at l = (l.valid ≡ (list_all is_value_byte (drop l.last l.value) && list_all is_value_byte (take l.at l.value))) × (l.at ≤ l.last + 15)

abbrev pub decreases-loop-at : goal.decreases-loop-at
decreases-loop-at l = l.last + 16 - l.at
