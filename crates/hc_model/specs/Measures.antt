-- How much is still to come of a body, and where what came of it ends: what makes the front of a writing stay where what is stored ends.
use Rattle.std.specs.Prelude.{◌≡◌, ℕ, ◌+◌, ◌≤◌, length, true, Some, None, is_some}
use Rattle.hc_event.specs.declared.place.Place.TheVariants as place
use Rattle.hc_event.specs.declared.place.BoundBy.{BoundBy}
use Rattle.hc_model.specs.Rows.{Tables, Exchange, Representation, Consumer}
use Rattle.hc_model.specs.Exchanges.{base, promised_bytes, family}

-- what an open exchange brings of a body: no more than its length, or all of what has no known length
pub data IsMeasured (w : Exchange) (v : Representation) : Type 0 where
  reported : (n total : ℕ) → promised_bytes w ≡ Some n → v.head.total ≡ Some total → base w + n ≤ total →
      IsMeasured w v
  unreported : promised_bytes w ≡ None → v.head.total ≡ None → base w ≡ 0 → w.joined ≡ None →
      length w.body ≡ v.reach → IsMeasured w v

-- a known end is within a known length
pub record EndsWithin (v : Representation) (hi : ℕ) : Type 0 where
  pub total : ℕ
  pub known : v.head.total ≡ Some total
  pub ends : hi ≤ total

-- what came of a body ends at its reach, and that is within its length, as is what a consumer reads
pub record Measures (t : Tables) : Type 0 where
  pub brings : (x : ℕ) (w : Exchange) (v : Representation) → t.exchange x ≡ Some w →
      w.is_open ≡ true → is_some w.head ≡ true → t.representation (family x w) ≡ Some v →
      IsMeasured w v
  pub tight : (r n : ℕ) (v : Representation) → t.representation r ≡ Some v → v.reach ≡ n + 1 →
      is_some (v.body n) ≡ true
  pub within : (r total : ℕ) (v : Representation) → t.representation r ≡ Some v →
      v.head.total ≡ Some total → v.reach ≤ total
  pub ends : (r c lo hi : ℕ) (how : BoundBy) (k : Consumer) (v : Representation) →
      t.consumer c ≡ Some k → k.place ≡ place.Bound r lo (Some hi) how →
      t.representation r ≡ Some v → EndsWithin v hi
