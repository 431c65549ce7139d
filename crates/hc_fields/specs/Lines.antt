-- Fields as lines of text.
use Rattle.std.specs.Prelude.{◌≡◌, ℕ, Bool, true, not, ◌&&◌, List, [], ◌∷◌, ◌++◌, length, drop, codes}
use Rattle.std.specs.List.{list_all}
use Rattle.std.specs.Char.{is_ascii_uppercase}
use Rattle.http_header.specs.Token.{is_token_byte, is_value_byte}

-- the name, a colon, a space and the value, ended by a line feed
abbrev pub field_text : List ℕ × List ℕ → List ℕ
field_text field = field.0 ++ codes ": " ++ field.1 ++ 10 ∷ []

-- the lines of the fields, in order
abbrev pub fields_text : List (List ℕ × List ℕ) → List ℕ
fields_text [] = []
fields_text (field ∷ fields) = field_text field ++ fields_text fields

-- the text begins with these bytes
abbrev pub BeginsWith : List ℕ → List ℕ → Type 0
BeginsWith bytes text = bytes ++ drop (length bytes) text ≡ text

-- a byte of a name in lower case
abbrev pub is_lower_byte : ℕ → Bool
is_lower_byte b = is_token_byte b && not (is_ascii_uppercase b)

-- such bytes, and bytes of a value
abbrev pub IsCut : List ℕ × List ℕ → Type 0
IsCut field = (list_all is_lower_byte field.0 ≡ true) × (list_all is_value_byte field.1 ≡ true)
