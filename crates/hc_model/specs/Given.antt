-- What a reader was given: it stands in the body, and not past its end.
use Rattle.std.specs.Prelude.{◌≡◌, ◌⊎◌, ℕ, ◌+◌, ◌≤◌, Option, Some, None}
use Rattle.hc_sparse.specs.Cells.{Covers}
use Rattle.hc_event.specs.declared.place.Place.TheVariants as place
use Rattle.hc_event.specs.declared.place.BoundBy.{BoundBy}
use Rattle.hc_model.specs.Reading.{hi_of}
use Rattle.hc_model.specs.Rows.{Tables, Representation, Consumer}

-- so much was given from lo on, of what ends at hi
pub record IsWithin (lo given hi : ℕ) : Type 0 where
  pub order : lo ≤ hi
  pub ends : lo + given ≤ hi

-- of who is bound
pub record Given (t : Tables) : Type 0 where
  pub covered : (c r lo : ℕ) (hi : Option ℕ) (by : BoundBy) (k : Consumer) (v : Representation) →
      t.consumer c ≡ Some k → k.place ≡ place.Bound r lo hi by → t.representation r ≡ Some v →
      Covers v.body lo (lo + k.given)
  pub reaches : (c r lo : ℕ) (hi : Option ℕ) (by : BoundBy) (k : Consumer) (v : Representation) →
      t.consumer c ≡ Some k → k.place ≡ place.Bound r lo hi by → t.representation r ≡ Some v →
      (k.given ≡ 0) ⊎ (lo + k.given ≤ v.reach)
  pub within : (c r lo n : ℕ) (hi : Option ℕ) (by : BoundBy) (k : Consumer) →
      t.consumer c ≡ Some k → k.place ≡ place.Bound r lo hi by → hi_of t k.place ≡ Some n →
      IsWithin lo k.given n
  pub from_start : (c r lo : ℕ) (by : BoundBy) (k : Consumer) → t.consumer c ≡ Some k →
      k.place ≡ place.Bound r lo None by → lo ≡ 0
