-- What is told of a row is what is told of what is kept.
use Rattle.std.proofs.Common.{◌≡◌, sym, ap}
use Rattle.hc_sparse.specs.Cells.{size}
use Rattle.hc_store.specs.Slots.{Held}
use Rattle.hc_stored.specs.{Heads.{Summary, summary_of}, Rows.{Row, kept_of, with_summary}, Views.{view_of, view_of_row}}

pub view-is : (row : Row) (held : Held) → summary_of held.head ≡ row.summary → view_of_row row (size held.cells) ≡ view_of (kept_of row held)
view-is row held summary = ap (λ (t : Summary). view_of_row (with_summary t row) (size held.cells)) (sym summary)
