-- The one value of a name, field by field.
use Rattle.std.{proofs.Common.{◌≡◌, ℕ, ◌+◌, ◌<◌, List, ◌∷◌, ◌∙◌}, specs.Prelude.{Option, Some, None}}
use Rattle.hc_fields.specs.FirstValues.{only_of}

-- the one value, where this one was found before
abbrev pub only_with : Option (List ℕ) → List (List ℕ) → Option (List ℕ)
only_with None values = only_of values
only_with (Some value) values = only_of (value ∷ values)
