use Rattle.std.proofs.Common.{◌-◌, ◌≤◌, ◌^◌}
use Rattle.hc_sparse.specs.{Extents.{AreFree}, BlockMaps.{marks}}
use Rattle.hc_sparse.proofs.blocks.next_in.Given as goal

abbrev pub invariant-loop-n : goal.invariant-loop-n
invariant-loop-n l = (l.p ≤ l.from) × AreFree (marks l.blocks) l.p l.from

abbrev pub decreases-loop-n : goal.decreases-loop-n
decreases-loop-n l = 2 ^ 64 - l.from
