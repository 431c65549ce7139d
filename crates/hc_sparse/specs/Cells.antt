-- What is at each position: a byte and the exchange that delivered it, or nothing.
use Rattle.std.specs.Prelude.{◌≡◌, ℕ, zero, suc, ◌+◌, ◌-◌, ◌<◌, ◌≤◌, ◌^◌, List, length, slice_index, Bool, true, Option, Some, None, is_some, if◌then◌else◌, ◌&&◌, nat_lt, nat_le}

-- A byte and the exchange that delivered it.
pub record Cell : Type 0 where
  pub byte : ℕ
  pub x : ℕ

abbrev pub Cells : Type 0
Cells = ℕ → Option Cell

-- Nothing is anywhere.
abbrev pub nothing : Cells
nothing p = None

-- A position is one of n from another on.
abbrev pub inside : ℕ → ℕ → ℕ → Bool
inside at n p = nat_le at p && nat_lt p (at + n)

-- Bytes of x from a position on, over what was there.
abbrev pub cells_with : ℕ → ℕ → List ℕ → Cells → Cells
cells_with at x bytes f p = if inside at (length bytes) p then Some (record { byte = slice_index bytes (p - at); x = x }) else f p

-- Nothing is there from one position to below another.
abbrev pub AreAbsent : Cells → ℕ → ℕ → Type 0
AreAbsent f lo hi = (p : ℕ) → lo ≤ p → p < hi → f p ≡ None

-- Nothing is there from a position on.
abbrev pub EndsBy : ℕ → Cells → Type 0
EndsBy n f = (p : ℕ) → n ≤ p → f p ≡ None

-- Bytes of x are at each position from one to below another.
abbrev pub AreOf : ℕ → Cells → ℕ → ℕ → Type 0
AreOf x f lo hi = (p : ℕ) → lo ≤ p → p < hi → (byte : ℕ) × (f p ≡ Some (record { byte = byte; x = x }))

-- Something is at each position from one to below another.
abbrev pub Covers : Cells → ℕ → ℕ → Type 0
Covers f lo hi = (p : ℕ) → lo ≤ p → p < hi → is_some (f p) ≡ true

-- A position is past another, and something is at each from that to below it.
pub record GoesTo (f : Cells) (p end : ℕ) : Type 0 where
  pub past : p < end
  pub covers : Covers f p end

-- The least position from p on where something is.
abbrev pub IsNext : Cells → ℕ → Option ℕ → Type 0
IsNext f p None = EndsBy p f
IsNext f p (Some n) = (p ≤ n) × (is_some (f n) ≡ true) × AreAbsent f p n

-- At how many positions below n something is.
unfoldable pub size_below : Cells → ℕ → ℕ
size_below f zero = 0
size_below f (suc n) = (if is_some (f n) then 1 else 0) + size_below f n

-- At how many positions something is.
unfoldable pub size : Cells → ℕ
size f = size_below f (2 ^ 62)
