-- A list of runs, one after another.
use Rattle.std.specs.Prelude.{◌≡◌, ℕ, ◌+◌, ◌-◌, ◌<◌, ◌≤◌, ◌^◌, List, [], ◌∷◌, ◌++◌, length, slice_index, Bool, Option, Some, None, if◌then◌else◌, ◌&&◌, nat_lt, nat_le}
use Rattle.hc_sparse.specs.Cells.{Cells, Cell, AreAbsent, cells_with}
use Rattle.hc_sparse.specs.declared.run.Run.{Run}

-- The position past the last of a run.
abbrev pub end_of : Run → ℕ
end_of r = r.at + length r.bytes

-- What a run has at one of its positions.
abbrev pub cell_in : Run → ℕ → Option Cell
cell_in r p = Some (record { byte = slice_index r.bytes (p - r.at); x = r.x })

-- A run with more bytes at its end.
abbrev pub longer_run : Run → List ℕ → Run
longer_run r more = record r { bytes = r.bytes ++ more }

-- What the runs have at each position.
abbrev pub cells_of : List Run → Cells
cells_of [] p = None
cells_of (r ∷ rs) p = cells_with r.at r.x r.bytes (cells_of rs) p

-- Each begins where the one before it ends, or later, and has a byte. The last ends by 2^62.
abbrev pub ascend : ℕ → List Run → Bool
ascend n [] = nat_le n (2 ^ 62)
ascend n (r ∷ rs) = nat_le n r.at && nat_lt 0 (length r.bytes) && ascend (end_of r) rs

-- How many of the runs end at a position or before it.
abbrev pub place_of : ℕ → List Run → ℕ
place_of p [] = 0
place_of p (r ∷ rs) = if nat_le (end_of r) p then place_of p rs + 1 else 0

-- A run is the first that ends past a position.
pub record IsRunFrom (rs : List Run) (p : ℕ) (r : Run) : Type 0 where
  pub some : 0 < length r.bytes
  pub past : p < end_of r
  pub end : end_of r ≤ 2 ^ 62
  pub cells : (q : ℕ) → r.at ≤ q → q < end_of r → cells_of rs q ≡ cell_in r q
  pub before : AreAbsent (cells_of rs) p r.at
