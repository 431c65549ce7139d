use Rattle.std.proofs.Common.{rules}
use Rattle.hc_sparse.specs.Sparse.{sparse_cells}
use Rattle.hc_sparse.proofs.SizeLemmas.{size-le}
use Rattle.hc_store.proofs.memory.MemoryBackend.used_by.Goals as goal

pub overflow_add-result : goal.overflow_add-result
overflow_add-result c = let few = size-le (sparse_cells c.entry_at.result.now.bytes) in let is = c.size.ensures in search rules
