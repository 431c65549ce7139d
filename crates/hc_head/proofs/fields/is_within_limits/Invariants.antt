use Rattle.std.proofs.Common.{◌≡◌, drop}
use Rattle.hc_head.specs.{Rules.{is_within_limits}, Held.{fields_in}}
use Rattle.hc_head.proofs.fields.is_within_limits.Given as goal

abbrev pub invariant-loop-header : goal.invariant-loop-header
invariant-loop-header l = is_within_limits (fields_in (drop l.header-index l.headers)) ≡ is_within_limits (fields_in l.headers)
