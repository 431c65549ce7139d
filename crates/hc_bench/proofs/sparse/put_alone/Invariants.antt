use Rattle.std.proofs.Common.{◌≡◌, ℕ, ◌*◌, ◌≤◌, None}
use Rattle.hc_sparse.specs.Sparse.{sparse_cells}
use Rattle.hc_bench.proofs.sparse.put_alone.Given as goal

abbrev pub invariant-loop-k : goal.invariant-loop-k
invariant-loop-k l = (p : ℕ) → 1048576 * l.k ≤ p → sparse_cells l.body p ≡ None
