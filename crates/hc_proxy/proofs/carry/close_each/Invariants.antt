use Rattle.std.proofs.Common.{◌≡◌, take}
use Rattle.hc_wire.specs.Logs.{Log}
use Rattle.hc_proxy.specs.{Logging.{Follows}, Underway.{Closes}}
use Rattle.hc_proxy.proofs.carry.close_each.Given as goal

abbrev pub invariant-loop-k : goal.invariant-loop-k
invariant-loop-k g l =
    ((log : Log) → Follows (g.W.Wire.log l.fn.wire) (g.W.Wire.stages l.fn.wire) log
    → Closes (take l.k-index l.ks) log (g.W.Wire.log l.wire) (g.W.Wire.stages l.fn.wire) (g.W.Wire.stages l.wire))
    × (g.W.Wire.events l.wire ≡ g.W.Wire.events l.fn.wire)
    × (g.W.Wire.faults l.wire ≡ g.W.Wire.faults l.fn.wire)
