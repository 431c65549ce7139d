-- Which fields Connection names beside those that concern the connection alone anyway (RFC 9110 section 7.6.1).
use Rattle.std.specs.Prelude.{ℕ, ◌&&◌, not, Bool, List, codes}
use Rattle.std.specs.List.{list_any}
use Rattle.http_header.specs.Token.{lowercase}
use Rattle.hc_text.specs.Elements.{elements}
use Rattle.hc_fields.specs.FieldList.{has_name}
use Rattle.hc_head.specs.Rules.{is_there, is_hop_name}

-- the element names a field that is there, other than those
abbrev pub names_other : List (List ℕ × List ℕ) → List ℕ → Bool
names_other fields element = not (is_hop_name (lowercase element)) && is_there (lowercase element) fields

-- an element of the list does
abbrev pub lists_other : List (List ℕ × List ℕ) → List ℕ → Bool
lists_other fields value = list_any (names_other fields) (elements value)

-- the field is `connection`, and an element of it does
abbrev pub is_other : List (List ℕ × List ℕ) → List ℕ × List ℕ → Bool
is_other fields field = has_name (codes "connection") field && lists_other fields field.1

-- `connection` names a field that is there, other than those
abbrev pub has_others : List (List ℕ × List ℕ) → Bool
has_others fields = list_any (is_other fields) fields
