use Rattle.std.proofs.Common.{◌-◌, ◌<◌, ◌≤◌}
use Rattle.hc_sparse.specs.Cells.{Covers}
use Rattle.hc_partial.proofs.holes.stored_end.Given as goal

abbrev pub invariant-loop-end : goal.invariant-loop-end
invariant-loop-end g l = record {
  from : l.fn.from ≤ l.lo;
  apart : l.lo < l.end;
  within : l.end ≤ l.fn.hi;
  covered : Covers (g.P.Presence.cells l.store) l.fn.from l.lo;
  missing : Covers (g.P.Presence.cells l.store) l.lo l.end → ⊥;
}

abbrev pub decreases-loop-end : goal.decreases-loop-end
decreases-loop-end g l = l.end - l.lo
