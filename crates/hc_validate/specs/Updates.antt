-- The stored fields after a new head of the same representation (RFC 9111 section 3.2).
use Rattle.std.specs.Prelude.{ℕ, ◌∷◌, [], ◌&&◌, not, nat_le, Bool, List, codes, bytes_eq, filter, length, if◌then◌else◌}
use Rattle.std.specs.List.{list_any}
use Rattle.hc_fields.specs.FieldList.{has_name, field_list_with, size_of, without}

-- Fields in which one value stands for a name.

abbrev pub FieldPairs : Type 0
FieldPairs = List (List ℕ × List ℕ)

-- the fields with this value in place of all of its name
abbrev pub with_one : List ℕ → List ℕ → FieldPairs → FieldPairs
with_one name value fields = field_list_with name value (without name fields)

-- names that no update changes
abbrev pub fixed_names : List (List ℕ)
fixed_names =
    codes "content-length" ∷ codes "content-range" ∷ codes "content-encoding" ∷ codes "transfer-encoding"
    ∷ codes "connection" ∷ codes "keep-alive" ∷ codes "trailer" ∷ codes "upgrade" ∷ codes "etag" ∷ codes "vary" ∷ []

abbrev pub is_fixed : List ℕ × List ℕ → Bool
is_fixed field = list_any (bytes_eq field.0) fixed_names

-- what a new head may change
abbrev pub changeable_fields : FieldPairs → FieldPairs
changeable_fields fields = filter (λ (f : List ℕ × List ℕ). not (is_fixed f)) fields

-- a field of the same name is among these
abbrev pub is_renewed : FieldPairs → List ℕ × List ℕ → Bool
is_renewed new field = list_any (λ (f : List ℕ × List ℕ). has_name f.0 field) new

-- the fields with all of these, each behind those of its name
abbrev pub with_all : FieldPairs → FieldPairs → FieldPairs
with_all [] fields = fields
with_all (f ∷ new) fields = with_all new (field_list_with f.0 f.1 fields)

-- the fields of names that the new ones don't have
abbrev pub left_by : FieldPairs → FieldPairs → FieldPairs
left_by new fields = filter (λ (f : List ℕ × List ℕ). not (is_renewed new f)) fields

-- each name of the new fields has their values alone
abbrev pub fields_with : FieldPairs → FieldPairs → FieldPairs
fields_with fields new = with_all new (left_by new fields)

abbrev pub is_within_limits : FieldPairs → Bool
is_within_limits fields = nat_le (length fields) 64 && nat_le (size_of fields) 32768

abbrev pub within_limits_or : FieldPairs → FieldPairs → FieldPairs
within_limits_or new old = if is_within_limits new then new else old

-- the stored fields stay as they are where the result would be too large
abbrev pub updated_fields : FieldPairs → FieldPairs → FieldPairs
updated_fields fields new = within_limits_or (fields_with fields (changeable_fields new)) fields
