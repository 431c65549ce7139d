-- What blocks and the list of all bytes have at each position.
use Rattle.std.specs.Prelude.{◌≡◌, ℕ, ◌/◌, ◌%◌, ◌^◌, ◌<◌, ◌≤◌, List, slice_index, Bool, true, false, is_some, Option, Some, None, nat_lt}
use Rattle.std.specs.Ordering.{nat_cmp}
use Rattle.std.specs.BTreeMap.{BTreeMap, get}
use Rattle.hc_sparse.specs.Cells.{Cells, Cell}
use Rattle.hc_sparse.specs.Extents.{Mark, Marks}
use Rattle.hc_sparse.specs.Blocks.{marks_in}
use Rattle.hc_sparse.specs.declared.block.Block.{Block}

abbrev pub mark_at : Option Block → ℕ → Option Mark
mark_at None o = None
mark_at (Some b) o = marks_in b o

-- The block of a position.
abbrev pub block_of : BTreeMap ℕ Block → ℕ → Option Block
block_of m p = get nat_cmp m (p / 4096)

-- The mark of each position.
abbrev pub marks : BTreeMap ℕ Block → Marks
marks m p = mark_at (block_of m p) (p % 4096)

-- The byte that a mark tells, and whose it is.
abbrev pub cell_of : List ℕ → Option Mark → Option Cell
cell_of bytes None = None
cell_of bytes (Some mark) = Some (record { byte = slice_index bytes mark.place; x = mark.x })

-- What is at each position, by the marks.
abbrev pub cells_by : Marks → List ℕ → Cells
cells_by f bytes p = cell_of bytes (f p)

-- Blocks are of positions below 2^62.
abbrev pub AreBelow : BTreeMap ℕ Block → Type 0
AreBelow m = (n : ℕ) → 2 ^ 50 ≤ n → is_some (get nat_cmp m n) ≡ false

abbrev pub is_within : ℕ → Option Mark → Bool
is_within n None = true
is_within n (Some mark) = nat_lt mark.place n

-- The bytes of all marks stand among the first so many.
abbrev pub AreWithin : Marks → ℕ → Type 0
AreWithin f n = (p : ℕ) → is_within n (f p) ≡ true

-- A block is the first from a number on, and this is its number.
pub record IsFirstFrom (m : BTreeMap ℕ Block) (n number : ℕ) (block : Block) : Type 0 where
  pub from : n ≤ number
  pub there : get nat_cmp m number ≡ Some block
  pub before : (k : ℕ) → n ≤ k → k < number → get nat_cmp m k ≡ None

-- Each position has the mark that it had.
abbrev pub HaveSame : BTreeMap ℕ Block → BTreeMap ℕ Block → Type 0
HaveSame m n = (q : ℕ) → marks n q ≡ marks m q
