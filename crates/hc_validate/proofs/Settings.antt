-- A field that isn't refused, and how much longer the list is with it.
use Rattle.std.proofs.{Common.{◌≡◌, ℕ, ◌+◌, ◌≤◌, ◌<◌, true, List, length, inl, inr, arith}, lemmas.Bool.{both_ways}}
use Rattle.http_header.specs.Token.{IsToken, lowercase}
use Rattle.hc_fields.specs.{declared.error.FieldError.{FieldError, TheVariants.{BadName, BadValue, TooMany, TooLong, NoMemory}}, FieldList.{Refuses, is_own_value, size_of, without}}
use Rattle.hc_fields.proofs.{Edits.{length-parts, length-put, size_of-parts, size_of-put}, Kept.{length-lowercase}}
use Rattle.hc_validate.specs.Updates.{FieldPairs, with_one}

pub length-without : (name : List ℕ) (fields : FieldPairs) → length (without name fields) ≤ length fields
length-without name fields = omega (arith, length-parts name fields)

pub size_of-without : (name : List ℕ) (fields : FieldPairs) → size_of (without name fields) ≤ size_of fields
size_of-without name fields = omega (arith, size_of-parts name fields)

pub length-with_one : (name value : List ℕ) (fields : FieldPairs) → length (with_one name value fields) ≤ length fields + 1
length-with_one name value fields = omega (arith, length-put name value (without name fields), length-without name fields)

pub size_of-with_one : (name value : List ℕ) (fields : FieldPairs)
    → size_of (with_one (lowercase name) value fields) ≤ size_of fields + (length name + length value)
size_of-with_one name value fields =
    omega (arith, size_of-put (lowercase name) value (without (lowercase name) fields), size_of-without (lowercase name) fields, length-lowercase name)

-- what is set in a short list
pub record IsSettable (n v : List ℕ) (fields : FieldPairs) : Type 0 where
  pub name : IsToken n
  pub value : is_own_value v ≡ true
  pub short : length v ≤ 8192
  pub few : length fields < 80
  pub small : size_of fields + (length n + length v) ≤ 49152

pub never_refused : (e : FieldError) (name value : List ℕ) (fields : FieldPairs) → IsSettable name value fields →
    Refuses e (without (lowercase name) fields) name value → ⊥
never_refused BadName name value fields may refused = refused may.name
never_refused BadValue name value fields may refused = both_ways (is_own_value value) refused.1 may.value
never_refused TooMany name value fields may refused =
    absurd (omega (arith, refused.2, may.few, length-without (lowercase name) fields))
never_refused TooLong name value fields may refused = elim refused.3 [
  | inl long ↦ absurd (omega (arith, long, may.short))
  | inr large ↦ absurd (omega (arith, large, may.small, size_of-without (lowercase name) fields))
]
never_refused NoMemory name value fields may refused = refused
