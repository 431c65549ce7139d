-- From which exchanges the bytes of bodies are: a number names the bytes of one body alone.
use Rattle.std.specs.Prelude.{◌≡◌, ℕ, ◌<◌, ◌≤◌, true, Some, None, is_some}
use Rattle.hc_sparse.specs.Cells.{Cell}
use Rattle.hc_model.specs.Exchanges.{family}
use Rattle.hc_model.specs.Rows.{Tables, Exchange, Representation}

-- the body of r has a byte that x delivered
pub data HasByte (t : Tables) (r x : ℕ) : Type 0 where
  has_byte : (p : ℕ) (cell : Cell) (v : Representation) → t.representation r ≡ Some v →
      v.body p ≡ Some cell → cell.x ≡ x → HasByte t r x

-- x may have delivered it: the store began with it, or x founded or joined r by its head
pub data MayDeliver (t : Tables) (r x : ℕ) : Type 0 where
  begun : t.exchange x ≡ None → MayDeliver t r x
  came : (w : Exchange) → t.exchange x ≡ Some w → is_some w.head ≡ true → family x w ≡ r →
      MayDeliver t r x

-- numbers were given out from 1 on; each byte is from its body's family; and a number that delivered
-- is said by no other body
pub record Origins (t : Tables) : Type 0 where
  pub founded : (r : ℕ) → is_some (t.representation r) ≡ true → 0 < r
  pub opened : (x : ℕ) → is_some (t.exchange x) ≡ true → 0 < x
  pub given_out : (r x : ℕ) → HasByte t r x → (0 < x) × (x ≤ t.opened)
  pub delivered : (r x : ℕ) → HasByte t r x → MayDeliver t r x
  pub one : (r q x : ℕ) → HasByte t r x → HasByte t q x → r ≡ q
  pub own : (r x : ℕ) → HasByte t r x → is_some (t.representation x) ≡ true → x ≡ r
