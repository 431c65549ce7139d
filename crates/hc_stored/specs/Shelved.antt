-- The rows, the order of the current ones and the slots agree.
use Rattle.std.specs.Prelude.{◌≡◌, ℕ, ◌-◌, ◌<◌, ◌^◌, ◌==◌, ◌||◌, Bool, true, false, List, Option, Some, None, is_some, option_map}
use Rattle.hc_text.specs.Sorted.{is_sorted, has, itself}
use Rattle.hc_sparse.specs.Cells.{Cells, EndsBy}
use Rattle.hc_store.specs.Slots.{Held, Slots, is_live, cells_held}
use Rattle.hc_stored.specs.Heads.{summary_of}
use Rattle.hc_stored.specs.Kept.{is_nobody}
use Rattle.hc_stored.specs.Rows.{Row, Rows, is_current}

-- Nothing is from there on, and it is 0 or a byte is just before it.
pub record Reaches (cells : Cells) (reach : ℕ) : Type 0 where
  pub ends : EndsBy reach cells
  pub last : (reach == 0 || is_some (cells (reach - 1))) ≡ true

abbrev pub is_among : Option ℕ → List ℕ → Bool
is_among None bound = true
is_among (Some c) bound = has itself c bound

-- What a live slot holds is that of a row: the row tells its head. The numbers of those who are bound rise, who
-- came alone is one of them, and to what is gone somebody is bound.
pub record IsShelved (held : Option Held) (row : Row) : Type 0 where
  pub number : row.slot < 2 ^ 64
  pub live : is_some held ≡ true
  pub summary : option_map (λ (h : Held). summary_of h.head) held ≡ Some row.summary
  pub reach : Reaches (cells_held held) row.reach
  pub ascending : is_sorted itself row.bound ≡ true
  pub first : is_among row.first row.bound ≡ true
  pub used : row.is_gone ≡ true → is_nobody row.bound ≡ false

-- a row is of this slot
pub record Owner (rows : Rows) (n : ℕ) : Type 0 where
  pub r : ℕ
  pub row : Row
  pub there : rows r ≡ Some row
  pub slot : row.slot ≡ n

-- No two rows are of one slot, and each live slot is that of a row. The order has those that aren't gone.
pub record AreShelved (rows : Rows) (order : List ℕ) (slots : Slots) : Type 0 where
  pub each : (r : ℕ) (row : Row) → rows r ≡ Some row → IsShelved (slots row.slot) row
  pub apart : (r q : ℕ) (a b : Row) → rows r ≡ Some a → rows q ≡ Some b → a.slot ≡ b.slot → r ≡ q
  pub owned : (n : ℕ) → is_live slots n ≡ true → ∥ Owner rows n ∥₁
  pub ordered : (r : ℕ) → has itself r order ≡ is_current (rows r)
