-- Whose each position is, and where its byte stands.
use Rattle.std.specs.Prelude.{◌≡◌, ◌⊎◌, ℕ}
use Rattle.hc_sparse.specs.Extents.{Marks, claimed_marks, Follows}
use Rattle.hc_sparse.specs.BlockMaps.{marks}
use Rattle.hc_sparse.specs.declared.extents.Extent.{Extent}
use Rattle.hc_sparse.specs.declared.places.Places.{Places}

-- The marks that a tail makes of those of the blocks.
abbrev pub with_tail : Extent → Marks → Marks
with_tail tail f = claimed_marks tail.at tail.len tail.x tail.from f

-- The mark of each position.
abbrev pub marks_at : Places → Marks
marks_at s = with_tail s.tail (marks s.blocks)

-- Each position has the mark that it had.
abbrev pub KeepsMarks : Places → Places → Type 0
KeepsMarks s t = (q : ℕ) → marks_at t q ≡ marks_at s q

-- The positions of an extent have its marks, and every other has the mark that it had.
abbrev pub MarksExtent : Places → Places → Extent → Type 0
MarksExtent s t new = (q : ℕ) → marks_at t q ≡ claimed_marks new.at new.len new.x new.from (marks_at s) q

-- What was put last is what an extent goes on from, or nothing.
abbrev pub IsReadyFor : Extent → Places → Type 0
IsReadyFor new s = Follows s.tail new ⊎ (s.tail.len ≡ 0)
