-- When two lists say the same under a name (RFC 9110 section 5.3).
use Rattle.std.specs.Prelude.{ℕ, ◌++◌, Bool, true, false, List, Option, Some, None, bytes_eq}
use Rattle.hc_fields.specs.FieldList.{joined_of, separated_values, values_of}

-- both are absent, or have equal bytes
abbrev pub is_same : Option (List ℕ) → Option (List ℕ) → Bool
is_same None None = true
is_same (Some a) (Some b) = bytes_eq a b
is_same _ _ = false

-- the values of this name, joined, are the same in both lists, or it is absent in both
abbrev pub agree_on : List ℕ → List (List ℕ × List ℕ) → List (List ℕ × List ℕ) → Bool
agree_on name a b = is_same (joined_of (values_of name a)) (joined_of (values_of name b))

-- the value that comes next, and all further ones, each behind a comma and a space
abbrev pub behind : Option (List ℕ) → List (List ℕ) → List ℕ
behind None values = separated_values values
behind (Some value) values = value ++ separated_values values

-- what is left of joined values: of the piece that was begun, and behind it
abbrev pub left_of : List ℕ → Option (List ℕ) → List (List ℕ) → List ℕ
left_of rest value values = rest ++ behind value values
