-- What takes a part from the front of a text.
use Rattle.std.specs.Prelude.{◌≡◌, ◌≢◌, ℕ, List, ◌++◌, Option, MatchOption}
pub use Rattle.hc_text.specs.Texts.{lacks}

module _ {A : Type 0} where
  -- The text begins with a part of this form, and the rest is left; or it begins with none.
  abbrev pub Takes : (A → List ℕ) → (A → Type 0) → List ℕ → List ℕ → Option A → Type 0
  Takes form Fits text rest result =
      MatchOption result ((a : A) (after : List ℕ) → Fits a → form a ++ after ≢ text) (λ a. Fits a × (form a ++ rest ≡ text))
