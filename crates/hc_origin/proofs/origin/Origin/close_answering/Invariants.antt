use Rattle.std.{proofs.Common.{◌≡◌, Bool}, specs.Prelude.{vec_len}}
use Rattle.hc_wire.specs.Logs.{Log}
use Rattle.hc_origin.specs.{Keeping.{Follows}, Going.{GoesTo, IsEnding, nobody}}
use Rattle.hc_origin.proofs.origin.Origin.close_answering.Given as goal

abbrev pub invariant-loop-reply : goal.invariant-loop-reply
invariant-loop-reply g l =
    ((reports : Bool) (log : Log) → Follows reports (g.W.Wire.log l.fn.wire) (g.W.Wire.stages l.fn.wire) log → IsEnding log nobody l.fn.self.answering.items
    → GoesTo reports log (g.W.Wire.log l.wire) (g.W.Wire.stages l.wire) (λ next. IsEnding next nobody l.self.answering.items))
    × (g.W.Wire.faults l.wire ≡ g.W.Wire.faults l.fn.wire)

abbrev pub decreases-loop-reply : goal.decreases-loop-reply
decreases-loop-reply g l = vec_len l.self.answering
