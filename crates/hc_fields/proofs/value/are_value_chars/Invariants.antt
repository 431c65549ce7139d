use Rattle.std.{proofs.Common.{◌≡◌, take}, specs.List.{list_all}}
use Rattle.http_header.specs.Token.{is_value_byte}
use Rattle.hc_fields.proofs.value.are_value_chars.Given as goal

abbrev pub invariant-loop-b : goal.invariant-loop-b
invariant-loop-b l = l.valid ≡ list_all is_value_byte (take l.b-index l.bytes)
