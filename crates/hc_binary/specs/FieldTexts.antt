-- Fields as lines of a text, in any order and case.
use Rattle.std.specs.Prelude.{◌≡◌, ◌≢◌, ℕ, ◌==◌, ◌&&◌, nat_le, Bool, List, [], ◌∷◌, ◌++◌, length, Option, Some, None, Result, Ok, Err, if◌then◌else◌}
use Rattle.std.specs.List.{list_all}
use Rattle.http_header.specs.Token.{is_token_byte, lowercase}
use Rattle.hc_fields.specs.FieldList.{field_list_with, is_own_value, size_of}
use Rattle.hc_sched.specs.Words.{◌>>=◌}
use Rattle.hc_sched.specs.FieldLines.{field_parts}
use Rattle.hc_binary.specs.declared.refused.CallRefusal.{CallRefusal}
use Rattle.hc_binary.specs.declared.refused.CallRefusal.TheVariants as refused

-- a token, and a value of at most 8,192 bytes
abbrev pub is_field : List ℕ × List ℕ → Bool
is_field field =
    nat_le 1 (length field.0) && list_all is_token_byte field.0 && is_own_value field.1
    && nat_le (length field.1) 8192

-- at most 64 fields, whose names and values have at most 32,768 bytes in all
abbrev pub are_within_limits : List (List ℕ × List ℕ) → Bool
are_within_limits fields = nat_le (length fields) 64 && nat_le (size_of fields) 32768

-- these with one more, its name lowered, if it is a field and they are then within the limits
abbrev pub with_field : List (List ℕ × List ℕ) → List ℕ × List ℕ → Option (List (List ℕ × List ℕ))
with_field fields field =
    let all = field_list_with (lowercase field.0) field.1 fields in
    if is_field field && are_within_limits all then Some all else None

-- these with the field of a line
unfoldable pub line_behind : List (List ℕ × List ℕ) → List ℕ → Option (List (List ℕ × List ℕ))
line_behind fields line = do
  field ← field_parts line
  with_field fields field

-- What a text says that goes on with these bytes of a line, behind fields: each line feed ends a line, and the last byte is one.
abbrev pub read_on : List (List ℕ × List ℕ) → List ℕ → List ℕ → Option (List (List ℕ × List ℕ))
read_on fields line [] = if length line == 0 then Some fields else None
read_on fields line (b ∷ text) =
    if b == 10 then line_behind fields line >>= (λ all. read_on all [] text)
    else read_on fields (line ++ b ∷ []) text

-- the fields whose lines the text is, if it is such lines
abbrev pub fields_of : List ℕ → Option (List (List ℕ × List ℕ))
fields_of text = read_on [] [] text

-- THE CODE

-- a line was read so, unless memory was refused
abbrev pub IsRead : Option (List (List ℕ × List ℕ)) → List (List ℕ × List ℕ) → Result (Unit {0}) CallRefusal → Type 0
IsRead owed fields (Ok done) = owed ≡ Some fields
IsRead owed fields (Err e) = e ≢ refused.NoMemory → (e ≡ refused.BadFields) × (owed ≡ None)

-- what is left of a text says, behind these fields, what the whole text says
abbrev pub IsRest : List ℕ → List (List ℕ × List ℕ) → List ℕ → Type 0
IsRest text fields rest = fields_of text ≡ read_on fields [] rest
