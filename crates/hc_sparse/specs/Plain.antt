-- What sparse bytes that are kept as runs have.
use Rattle.hc_sparse.specs.Cells.{Cells}
use Rattle.hc_sparse.specs.Runs.{cells_of}
use Rattle.hc_sparse.specs.declared.plain.PlainSparse.{PlainSparse}

-- What is at each position.
abbrev pub plain_cells : PlainSparse → Cells
plain_cells s = cells_of s.runs.items
