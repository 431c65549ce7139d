-- What sparse bytes that are kept as blocks and a tail have.
use Rattle.hc_sparse.specs.Cells.{Cells}
use Rattle.hc_sparse.specs.BlockMaps.{cells_by}
use Rattle.hc_sparse.specs.Places.{marks_at}
use Rattle.hc_sparse.specs.declared.sparse.Sparse.{Sparse}

-- What is at each position.
unfoldable pub sparse_cells : Sparse → Cells
sparse_cells s = cells_by (marks_at s.places) s.bytes
