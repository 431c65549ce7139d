-- The longest stretch from a position on that one exchange delivered.
use Rattle.std.specs.Prelude.{◌≡◌, ◌≢◌, ℕ, zero, suc, ◌+◌, ◌-◌, ◌<◌, ◌≤◌, ◌^◌, List, [], ◌∷◌, ◌++◌, length, take, slice_index, Option, Some, None, if◌then◌else◌, ◌==◌}
use Rattle.hc_sparse.specs.Cells.{Cells, Cell}
use Rattle.hc_sparse.specs.declared.run.Run.{Run}

abbrev pub goes_on : ℕ → Option Cell → List ℕ → List ℕ
goes_on x None rest = []
goes_on x (Some cell) rest = if cell.x == x then cell.byte ∷ rest else []

-- The bytes of x from p on without a gap, at most so many.
abbrev pub bytes_from : Cells → ℕ → ℕ → ℕ → List ℕ
bytes_from f x p zero = []
bytes_from f x p (suc n) = goes_on x (f p) (bytes_from f x (p + 1) n)

abbrev pub stretch_of : Cells → ℕ → ℕ → Option Cell → Option Run
stretch_of f p want None = None
stretch_of f p want (Some cell) = Some (record { x = cell.x; at = p; bytes = bytes_from f cell.x p want })

-- The stretch from p on, at most so long.
unfoldable pub stretch : Cells → ℕ → ℕ → Option Run
stretch f p want = stretch_of f p want (f p)

-- Bytes of one exchange from p on, with none left out, that end by 2^62.
pub record IsPart (f : Cells) (p x : ℕ) (bytes : List ℕ) : Type 0 where
  pub some : 0 < length bytes
  pub end : p + length bytes ≤ 2 ^ 62
  pub each : (i : ℕ) → i < length bytes → f (p + i) ≡ Some (record { byte = slice_index bytes i; x = x })

-- Bytes of one exchange from p on, at most so many, and where there are fewer, none of its bytes stands behind them.
pub record IsLongest (f : Cells) (p want : ℕ) (run : Run) : Type 0 where
  pub from : run.at ≡ p
  pub some : 0 < length run.bytes
  pub most : length run.bytes ≤ want
  pub each : (i : ℕ) → i < length run.bytes → f (p + i) ≡ Some (record { byte = slice_index run.bytes i; x = run.x })
  pub ends : length run.bytes < want → (byte : ℕ) → f (p + length run.bytes) ≢ Some (record { byte = byte; x = run.x })

-- The stretch of x from p on after a put of its bytes that it reaches: what stood before them, these bytes, and what stood behind them.
abbrev pub joined_stretch : Cells → ℕ → ℕ → List ℕ → ℕ → ℕ → Run
joined_stretch f from x bytes p want = record {
  x = x;
  at = p;
  bytes = take want (bytes_from f x p (from - p) ++ bytes ++ bytes_from f x (from + length bytes) want);
}

-- Bytes are the first of those of x from p on, at most so many.
abbrev pub BeginsStretch : Cells → ℕ → ℕ → ℕ → List ℕ → Type 0
BeginsStretch f x p most bytes = bytes_from f x p most ≡ bytes ++ bytes_from f x (p + length bytes) (most - length bytes)
