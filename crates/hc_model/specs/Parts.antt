-- What a consumer reads of what it is bound to: a part isn't empty, and who founded with the whole reads all of it.
use Rattle.std.specs.Prelude.{◌≡◌, ◌<◌, ℕ, true, false, Some}
use Rattle.hc_event.specs.declared.place.BoundBy.TheVariants as by
use Rattle.hc_event.specs.declared.place.Place.TheVariants as place
use Rattle.hc_rules.specs.Statuses.{brings_part}
use Rattle.hc_model.specs.Planning.{is_ranged}
use Rattle.hc_model.specs.Rows.{Tables, Representation, Consumer}

-- of who filled the first hole of a range, of who founded with a part, and of who founded with the whole
pub record Parts (t : Tables) : Type 0 where
  pub first : (c r lo hi y : ℕ) (k : Consumer) → t.consumer c ≡ Some k →
      k.place ≡ place.Bound r lo (Some hi) (by.FirstHole y) → is_ranged k ≡ true → lo < hi
  pub founded : (c r lo hi : ℕ) (k : Consumer) (v : Representation) → t.consumer c ≡ Some k →
      k.place ≡ place.Bound r lo (Some hi) by.Founding → t.representation r ≡ Some v →
      brings_part v.head.status ≡ true → is_ranged k ≡ true → lo < hi
  pub whole : (c r lo hi : ℕ) (k : Consumer) (v : Representation) → t.consumer c ≡ Some k →
      k.place ≡ place.Bound r lo (Some hi) by.Founding → t.representation r ≡ Some v →
      brings_part v.head.status ≡ false → v.head.total ≡ Some hi
