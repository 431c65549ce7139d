use Rattle.std.proofs.Common.{◌-◌, ◌^◌}
use Rattle.hc_io.specs.Reads.{HasRead}
use Rattle.hc_io.proofs.source.read_all.Given as goal

abbrev pub invariant-loop-bytes : goal.invariant-loop-bytes
invariant-loop-bytes g l =
    HasRead (g.S.Source.left l.fn.source) (g.S.Source.left l.source) (g.S.Source.faults l.fn.source) (g.S.Source.faults l.source)
    (g.S.Source.given l.fn.source) (g.S.Source.given l.source) l.bytes.items l.filled

abbrev pub decreases-loop-bytes : goal.decreases-loop-bytes
decreases-loop-bytes g l = 2 ^ 60 - g.S.Source.given l.source
