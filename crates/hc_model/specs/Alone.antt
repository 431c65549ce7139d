-- Who writes a representation alone, until that is lost: it is the only one that is bound.
use Rattle.std.specs.Prelude.{◌≡◌, ◌↔◌, ℕ, [], ◌∷◌, true, false, Some, None}
use Rattle.hc_model.specs.Reading.{is_written, bound}
use Rattle.hc_model.specs.Rows.{Tables, Representation, Consumer}
use Rattle.hc_model.specs.Sound.{IsFirst}
use Rattle.hc_model.specs.Writers.{exclusive, has_more}

-- it came alone, and nobody else is bound
pub record IsOnly (t : Tables) (r c : ℕ) : Type 0 where
  pub came : IsFirst t r c
  pub only : bound t r ≡ c ∷ []

-- Whoever came alone, with no failure due, while r isn't written for several, writes it exactly where it has an exchange of its
-- own, or a hole ahead.
pub record Alone (t : Tables) : Type 0 where
  pub is_only : (r c : ℕ) (v : Representation) → t.representation r ≡ Some v → v.is_lost ≡ false →
      exclusive t r v ≡ Some c → IsOnly t r c
  pub writes : (r c : ℕ) (v : Representation) (k : Consumer) → t.representation r ≡ Some v →
      v.is_lost ≡ false → is_written t v ≡ false → IsFirst t r c → t.consumer c ≡ Some k →
      k.due ≡ None → (exclusive t r v ≡ Some c) ↔ (has_more t v k ≡ true)
