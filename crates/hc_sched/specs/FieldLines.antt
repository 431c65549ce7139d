-- The field lines of an item.
use Rattle.std.specs.Prelude.{ℕ, ◌+◌, ◌&&◌, not, nat_le, Bool, List, length, codes, Option, Some, None, if◌then◌else◌}
use Rattle.std.specs.List.{list_all}
use Rattle.hc_fields.specs.FieldList.{comes_before, size_of, is_own_value}
use Rattle.hc_fields.specs.Lines.{is_lower_byte}
use Rattle.hc_sched.specs.Words.{◌>>=◌}
use Rattle.hc_text.specs.Texts.{cut, behind}

-- the name and the value of a line `NAME: VALUE`
unfoldable pub field_parts : List ℕ → Option (List ℕ × List ℕ)
field_parts line = do
  parts ← cut 58 line
  value ← behind (codes " ") parts.1
  Some (parts.0, value)

-- a token in lower case
unfoldable pub is_lower_token : List ℕ → Bool
is_lower_token name = nat_le 1 (length name) && list_all is_lower_byte name

-- the name comes before none of these
abbrev pub keeps_order : List (List ℕ × List ℕ) → List ℕ → Bool
keeps_order fields name = list_all (λ (f : List ℕ × List ℕ). not (comes_before name f.0)) fields

-- a value of at most 8,192 bytes, with which all names and values have at most 32,768
unfoldable pub has_room : List (List ℕ × List ℕ) → List ℕ × List ℕ → Bool
has_room fields field =
    nat_le (length field.1) 8192 && nat_le (size_of fields + length field.0 + length field.1) 32768

-- the field may stand behind these in an item
unfoldable pub may_follow : List (List ℕ × List ℕ) → List ℕ × List ℕ → Bool
may_follow fields field =
    is_lower_token field.0 && is_own_value field.1 && has_room fields field
    && keeps_order fields field.0

-- the field of a line behind these
unfoldable pub field_of : List (List ℕ × List ℕ) → List ℕ → Option (List ℕ × List ℕ)
field_of fields line = do
  field ← field_parts line
  if may_follow fields field then Some field else None
