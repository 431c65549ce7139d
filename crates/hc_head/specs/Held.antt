-- What the code has of the fields of a head, which it lends from the text.
use Rattle.std.specs.Prelude.{◌≡◌, ℕ, true, List, [], ◌∷◌, map, filter, All}
use Rattle.http_header.specs.Token.{IsToken}
use Rattle.httparse.specs.declared.borrowed.Header.{Header}
use Rattle.httparse.specs.Borrowed.{header_parts}
use Rattle.hc_fields.specs.FieldList.{is_own_value}
use Rattle.hc_head.specs.declared.fields.Leaving.{Leaving}
use Rattle.hc_head.specs.Rules.{lowercase_field, is_kept, put_all}

abbrev pub field_in : Header → List ℕ × List ℕ
field_in header = lowercase_field (header_parts header)

abbrev pub fields_in : List Header → List (List ℕ × List ℕ)
fields_in headers = map lowercase_field (map header_parts headers)

-- a token as the name, and a value without blanks at its ends
pub record IsGood (header : Header) : Type 0 where
  pub name : IsToken header.name.now
  pub is_value : is_own_value header.value.now ≡ true

abbrev pub AreGood : List Header → Type 0
AreGood headers = All IsGood headers

-- the fields, and this one where it is passed on
abbrev pub with_field : Leaving → List (List ℕ × List ℕ) → List (List ℕ × List ℕ) → List ℕ × List ℕ → List (List ℕ × List ℕ)
with_field leaving all sorted field = put_all sorted (filter (is_kept leaving all) (field ∷ []))
