-- What exchanges brought of bodies, and what of it is held for the detached reader.
use Rattle.std.specs.Prelude.{◌≡◌, ◌⊎◌, ℕ, ◌-◌, ◌<◌, ◌≤◌, slice_index, take, drop, true, Some, None, is_some}
use Rattle.hc_sparse.specs.Cells.{Cell}
use Rattle.hc_model.specs.Exchanges.{base, front, family}
use Rattle.hc_model.specs.Reading.{offset}
use Rattle.hc_model.specs.Rows.{Tables, Exchange, Representation, Consumer}
use Rattle.hc_model.specs.Sound.{IsBound}
use Rattle.hc_model.specs.Steps.{run_held_for, run_of}

-- the byte that x brought at a position
abbrev pub cell_from : ℕ → Exchange → ℕ → Cell
cell_from x w p = record { byte = slice_index w.body (p - base w); x = x }

-- what an exchange brought stands in the body that it founded or joined, and nothing else there is from it
pub record Brings (t : Tables) : Type 0 where
  pub stands : (x p : ℕ) (w : Exchange) (v : Representation) → t.exchange x ≡ Some w →
      is_some w.head ≡ true → t.representation (family x w) ≡ Some v → base w ≤ p → p < front w →
      v.body p ≡ Some (cell_from x w p)
  pub only : (r x p : ℕ) (cell : Cell) (w : Exchange) (v : Representation) →
      t.representation r ≡ Some v → v.body p ≡ Some cell → cell.x ≡ x → t.exchange x ≡ Some w →
      (base w ≤ p) × (p < front w)

-- ahead of a consumer nothing is stored of what x brought from this position on, and else all that came is
pub record IsHeldFrom (t : Tables) (v : Representation) (k : Consumer) (x : ℕ) (w : Exchange) (from : ℕ) :
    Type 0 where
  pub within : from ≤ front w
  pub stored : (p : ℕ) → offset t k ≤ p → (p < from) ⊎ (front w ≤ p) → v.stored p ≡ v.body p
  pub unstored : (p : ℕ) → offset t k ≤ p → from ≤ p → p < front w → v.stored p ≡ None
  pub came : (p : ℕ) → offset t k ≤ p → from ≤ p → p < front w → v.body p ≡ Some (cell_from x w p)

-- of its own exchange
pub record HoldsOwn (t : Tables) (c : ℕ) (v : Representation) (k : Consumer) : Type 0 where
  pub x : ℕ
  pub w : Exchange
  pub own : k.own ≡ Some x
  pub row : t.exchange x ≡ Some w
  pub from : ℕ
  pub ahead : IsHeldFrom t v k x w from
  pub next : v.stored (offset t k) ≡ None → (n : ℕ) → 0 < n →
      run_held_for t c k n ≡ run_of x (offset t k) (take n (drop (offset t k - base w) w.body))

-- the detached reader, also where a failure is due
pub record Losses (t : Tables) : Type 0 where
  pub alone : (r c : ℕ) (v : Representation) (k : Consumer) → t.representation r ≡ Some v →
      v.alone ≡ Some c → IsBound t r c k → HoldsOwn t c v k
