use Rattle.std.proofs.Common.{◌≤◌, ◌-◌}
use Rattle.hc_sparse.specs.Cells.{Covers}
use Rattle.hc_sparse.proofs.parts.covered.Given as goal

abbrev pub invariant-loop-p : goal.invariant-loop-p
invariant-loop-p g l = (l.span.lo ≤ l.p) × Covers (g.P.Parts.kept l.kept) l.span.lo l.p

abbrev pub decreases-loop-p : goal.decreases-loop-p
decreases-loop-p g l = l.span.hi - l.p
