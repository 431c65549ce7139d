-- The next part of what is stitched together from stored bytes and fetched ones.
use Rattle.std.specs.Prelude.{◌≡◌, ℕ, ◌^◌, true, Option, Some, None, is_some}
use Rattle.hc_sparse.specs.Cells.{Cells, IsNext}
use Rattle.hc_partial.specs.declared.stitch.Part.{Part}
use Rattle.hc_partial.specs.declared.stitch.Part.TheVariants.{Stored, Hole}
use Rattle.hc_partial.specs.Holes.{absent_from}

-- What stands from p on: bytes up to the first position without one, where no byte is at 2^62 or past it; or none at p,
-- up to the next that is there.
abbrev pub IsNextPart : Cells → ℕ → Part → Type 0
IsNextPart f p (Stored upto) = (is_some (f p) ≡ true) × (upto ≡ absent_from f p (2 ^ 62))
IsNextPart f p (Hole upto) = (f p ≡ None) × IsNext f p upto

-- where the stored bytes end
abbrev pub stored_to : Part → Option ℕ
stored_to (Stored upto) = Some upto
stored_to (Hole upto) = None

-- the next stored byte behind a hole
abbrev pub hole_to : Part → Option ℕ
hole_to (Stored upto) = None
hole_to (Hole upto) = upto
