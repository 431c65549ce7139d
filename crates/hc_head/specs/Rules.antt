-- What the fields of a head say of the message (RFC 9110 section 7.6.1, RFC 9112 sections 6 and 9.6). Names are in lower case.
use Rattle.std.specs.Prelude.{ℕ, ◌&&◌, ◌||◌, not, nat_le, Bool, false, List, [], ◌∷◌, length, map, filter, codes, bytes_eq}
use Rattle.std.specs.List.{list_all, list_any}
use Rattle.http_header.specs.Token.{lowercase}
use Rattle.httparse.specs.Grammar.{Field}
use Rattle.httparse.specs.Spans.{name_and_value}
use Rattle.hc_text.specs.Elements.{elements}
use Rattle.hc_fields.specs.FieldList.{field_list_with, has_name}
use Rattle.hc_head.specs.declared.fields.Leaving.{Leaving}
use Rattle.hc_head.specs.declared.fields.Leaving.TheVariants.{Nothing, Length, Address}

-- the name in lower case, and the value
abbrev pub lowercase_field : List ℕ × List ℕ → List ℕ × List ℕ
lowercase_field field = (lowercase field.0, field.1)

-- the fields of a head, with their names in lower case
abbrev pub fields_of : List Field → List (List ℕ × List ℕ)
fields_of fields = map lowercase_field (map name_and_value fields)

-- a field of this name is there
abbrev pub is_there : List ℕ → List (List ℕ × List ℕ) → Bool
is_there name fields = list_any (has_name name) fields

-- no value has more than 8,192 bytes
abbrev pub is_within_limits : List (List ℕ × List ℕ) → Bool
is_within_limits fields = list_all (λ (f : List ℕ × List ℕ). nat_le (length f.1) 8192) fields

-- an element of the list is this name, in any case
abbrev pub lists_name : List ℕ → List ℕ → Bool
lists_name name value = list_any (λ element. bytes_eq (lowercase element) name) (elements value)

-- the field is `connection`, and names this one
abbrev pub is_option : List ℕ → List ℕ × List ℕ → Bool
is_option name field = has_name (codes "connection") field && lists_name name field.1

-- a field of this name concerns the connection alone, whatever `connection` names
abbrev pub is_hop_name : List ℕ → Bool
is_hop_name name =
    bytes_eq name (codes "connection") || bytes_eq name (codes "keep-alive")
    || bytes_eq name (codes "proxy-connection") || bytes_eq name (codes "te")
    || bytes_eq name (codes "trailer") || bytes_eq name (codes "transfer-encoding")
    || bytes_eq name (codes "upgrade")

-- a field of this name concerns the connection alone
abbrev pub is_hop : List (List ℕ × List ℕ) → List ℕ → Bool
is_hop fields name = is_hop_name name || list_any (is_option name) fields

-- a field of this name is left out
abbrev pub is_left : Leaving → List ℕ → Bool
is_left Nothing name = false
is_left Length name = bytes_eq name (codes "content-length")
is_left Address name = bytes_eq name (codes "host") || bytes_eq name (codes "content-length")

-- the field is passed on
abbrev pub is_kept : Leaving → List (List ℕ × List ℕ) → List ℕ × List ℕ → Bool
is_kept leaving fields field = not (is_left leaving field.0) && not (is_hop fields field.0)

-- the fields sorted by name, in their order within one name, behind these
abbrev pub put_all : List (List ℕ × List ℕ) → List (List ℕ × List ℕ) → List (List ℕ × List ℕ)
put_all sorted [] = sorted
put_all sorted (f ∷ fields) = put_all (field_list_with f.0 f.1 sorted) fields

-- the fields that are passed on, sorted
abbrev pub kept_of : Leaving → List (List ℕ × List ℕ) → List (List ℕ × List ℕ)
kept_of leaving fields = put_all [] (filter (is_kept leaving fields) fields)
