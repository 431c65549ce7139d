-- Holes in what is stored, where nothing is stored from a position on.
use Rattle.std.specs.Prelude.{ℕ, zero, suc, ◌+◌, ◌-◌, min, nat_lt, nat_le, Bool, if◌then◌else◌, Option, Some, None, is_some, is_none}
use Rattle.hc_range.specs.declared.range.Span.{Span}
use Rattle.hc_sparse.specs.Cells.{Cells, Cell}
use Rattle.hc_sparse.specs.Stretch.{stretch}
use Rattle.hc_sparse.specs.declared.run.Run.{Run}

-- the first of n positions from p on that passes a test, or the one behind them
abbrev pub first_place : (Option Cell → Bool) → Cells → ℕ → ℕ → ℕ
first_place test f p zero = p
first_place test f p (suc n) = if test (f p) then p else first_place test f (p + 1) n

-- the first position from lo up to hi where nothing is; nothing is from `reach` on
abbrev pub absent_from : Cells → ℕ → ℕ → ℕ → ℕ
absent_from f reach lo hi = first_place is_none f lo (min hi reach - lo)

-- each position from lo up to hi has something
abbrev pub covers : Cells → ℕ → ℕ → ℕ → Bool
covers f reach lo hi = nat_le hi (absent_from f reach lo hi)

abbrev pub below : ℕ → ℕ → Option ℕ
below reach p = if nat_lt p reach then Some p else None

-- the next position from p on where something is
abbrev pub next_from : Cells → ℕ → ℕ → Option ℕ
next_from f reach p = below reach (first_place is_some f p (reach - p))

abbrev pub end_by : ℕ → Option ℕ → ℕ
end_by hi None = hi
end_by hi (Some next) = min hi next

-- the hole at an absent position: up to the next position where something is, or to hi
abbrev pub hole_at : Cells → ℕ → ℕ → ℕ → Span
hole_at f reach p hi = record { lo = p; hi = end_by hi (next_from f reach p) }

-- the first hole of a span
abbrev pub first_hole : Cells → ℕ → Span → Option Span
first_hole f reach span =
    if covers f reach span.lo span.hi then None
    else Some (hole_at f reach (absent_from f reach span.lo span.hi) span.hi)

-- the longest stretch of one exchange from a position on, at most so long
abbrev pub stretch_to : Cells → ℕ → ℕ → ℕ → Option Run
stretch_to f reach p n = stretch f p (min n (reach - p))
