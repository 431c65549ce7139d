use Rattle.std.proofs.Common.{◌≡◌}
use Rattle.hc_generate.specs.Sending.{origin_bytes}
use Rattle.hc_generate.proofs.exchange.origin_bytes.Given as goal

abbrev pub invariant-loop-i : goal.invariant-loop-i
invariant-loop-i l = l.bytes.items ≡ origin_bytes l.at l.i
