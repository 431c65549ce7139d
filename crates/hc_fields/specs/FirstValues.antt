-- The values of a name: the first, the only one, and the elements of all.
use Rattle.std.specs.Prelude.{ℕ, nat_lt, Bool, List, [], ◌∷◌, length, Option, Some, None, slice_get}
use Rattle.hc_fields.specs.FieldList.{values_of}
use Rattle.std.specs.List.{flat_map}
use Rattle.hc_text.specs.Elements.{elements}

-- the elements of all values of a name, in order
abbrev pub elements_in : List ℕ → List (List ℕ × List ℕ) → List (List ℕ)
elements_in name fields = flat_map elements (values_of name fields)

-- the first value of this name
abbrev pub first_value : List ℕ → List (List ℕ × List ℕ) → Option (List ℕ)
first_value name fields = slice_get (values_of name fields) 0

-- a field of this name is there
abbrev pub has_field : List ℕ → List (List ℕ × List ℕ) → Bool
has_field name fields = nat_lt 0 (length (values_of name fields))

-- the one value
abbrev pub only_of : List (List ℕ) → Option (List ℕ)
only_of (value ∷ []) = Some value
only_of _ = None
