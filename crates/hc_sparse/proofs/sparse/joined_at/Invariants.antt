use Rattle.std.proofs.Common.{◌-◌}
use Rattle.hc_sparse.specs.{Extents.{IsExtentAt}, Places.{marks_at}}
use Rattle.hc_sparse.proofs.sparse.joined_at.Given as goal

abbrev pub invariant-loop-whole : goal.invariant-loop-whole
invariant-loop-whole l = IsExtentAt (marks_at l.places) l.p l.whole

abbrev pub decreases-loop-whole : goal.decreases-loop-whole
decreases-loop-whole l = l.want - l.whole.len
