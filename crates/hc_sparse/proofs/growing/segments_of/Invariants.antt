use Rattle.std.{proofs.Common.{◌≡◌, ◌*◌, true, take}, specs.List.{concat}}
use Rattle.hc_sparse.specs.Growing.{are_whole}
use Rattle.hc_sparse.proofs.growing.segments_of.Given as goal

abbrev pub invariant-loop-n : goal.invariant-loop-n
invariant-loop-n l = (are_whole l.segments.items ≡ true) × (concat l.segments.items ≡ take (l.n * 16384) l.bytes)
