-- What is stored from a position on, and what is missing.
use Rattle.std.specs.Prelude.{ℕ, zero, suc, ◌+◌, ◌-◌, nat_le, Bool, if◌then◌else◌, Option, Some, None, is_some, is_none}
use Rattle.hc_range.specs.declared.range.Span.{Span}
use Rattle.hc_sparse.specs.Cells.{Cells, Cell}

-- the first of n positions from p on that passes a test, or the one behind them
abbrev pub first_place : (Option Cell → Bool) → Cells → ℕ → ℕ → ℕ
first_place test f p zero = p
first_place test f p (suc n) = if test (f p) then p else first_place test f (p + 1) n

-- the first position from lo on where nothing is, or hi
unfoldable pub absent_from : Cells → ℕ → ℕ → ℕ
absent_from f lo hi = first_place is_none f lo (hi - lo)

-- the first position from lo on where something is, or hi
unfoldable pub present_from : Cells → ℕ → ℕ → ℕ
present_from f lo hi = first_place is_some f lo (hi - lo)

-- the hole at a position where nothing is: up to where something is, or to hi
abbrev pub hole_at : Cells → ℕ → ℕ → Span
hole_at f p hi = record { lo = p; hi = present_from f p hi }

-- the first hole of a span
unfoldable pub first_hole : Cells → Span → Option Span
first_hole f span =
    if nat_le span.hi (absent_from f span.lo span.hi) then None
    else Some (hole_at f (absent_from f span.lo span.hi) span.hi)
