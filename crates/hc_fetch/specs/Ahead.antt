-- What the code keeps of what is gathered: how many bytes were written from 0 on, and what was given ahead of them.
use Rattle.std.specs.Prelude.{◌≡◌, ◌⊎◌, ℕ, ◌+◌, ◌<◌, ◌≤◌, ◌^◌, List, ◌++◌, length, slice_index, Some, None}
use Rattle.std.specs.Ordering.{nat_cmp}
use Rattle.std.specs.BTreeMap.{BTreeMap, get}
use Rattle.hc_sparse.specs.Cells.{Cells, Cell, Covers}
use Rattle.hc_fetch.specs.Gathering.{bytes_on}

-- bytes by their first position
abbrev pub Ahead : Type 0
Ahead = BTreeMap ℕ (List ℕ)

-- these bytes are gathered from a position on
pub record Stand (f : Cells) (at : ℕ) (bytes : List ℕ) : Type 0 where
  pub below : at + length bytes ≤ 2 ^ 62
  pub each : (i : ℕ) → i < length bytes →
      (x : ℕ) × (f (at + i) ≡ Some (record { byte = slice_index bytes i; x = x }))

-- where they were gathered already, they are the same
pub record Fit (f : Cells) (at : ℕ) (bytes : List ℕ) : Type 0 where
  pub below : at + length bytes ≤ 2 ^ 62
  pub same : (i : ℕ) (cell : Cell) → i < length bytes → f (at + i) ≡ Some cell →
      cell.byte ≡ slice_index bytes i

-- a position is one of these
abbrev pub IsIn : ℕ → ℕ → List ℕ → Type 0
IsIn p at bytes = (at ≤ p) × (p < at + length bytes)

-- it is one of those that are ahead
pub record IsAhead (ahead : Ahead) (p : ℕ) : Type 0 where
  pub at : ℕ
  pub bytes : List ℕ
  pub there : get nat_cmp ahead at ≡ Some bytes
  pub inside : IsIn p at bytes

-- All before the end of what was written is gathered, and all that is ahead of it; and what is gathered from there on is ahead, or
-- is one of these bytes, which begin no later.
pub record KeepsBut (ahead : Ahead) (written : ℕ) (f : Cells) (at : ℕ) (bytes : List ℕ) : Type 0 where
  pub covers : Covers f 0 written
  pub stand : (q : ℕ) (others : List ℕ) → get nat_cmp ahead q ≡ Some others → Stand f q others
  pub these : Stand f at bytes
  pub begins : at ≤ written
  pub all : (p : ℕ) (cell : Cell) → written ≤ p → f p ≡ Some cell →
      IsAhead ahead p ⊎ IsIn p at bytes

-- so without other bytes
pub record Keeps (ahead : Ahead) (written : ℕ) (f : Cells) : Type 0 where
  pub covers : Covers f 0 written
  pub stand : (q : ℕ) (others : List ℕ) → get nat_cmp ahead q ≡ Some others → Stand f q others
  pub all : (p : ℕ) (cell : Cell) → written ≤ p → f p ≡ Some cell → IsAhead ahead p

-- and no more can be written
pub record KeepsAll (ahead : Ahead) (written : ℕ) (f : Cells) : Type 0 where
  pub keeps : Keeps ahead written f
  pub stops : f written ≡ None

-- the bytes from one position to another were appended
pub record Appends (f : Cells) (from to : ℕ) (before after : List ℕ) : Type 0 where
  pub count : ℕ
  pub up_to : from + count ≡ to
  pub covers : Covers f from to
  pub text : after ≡ before ++ bytes_on f from count
