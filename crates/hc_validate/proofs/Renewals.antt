-- How a stored list is renewed, field by field.
use Rattle.std.{proofs.{Common.{◌≡◌, ℕ, ◌+◌, ◌≤◌, true, false, List, [], ◌∷◌, length, drop, inl, inr, refl, ap, subst, arith}, lemmas.{Bool.{both_ways, cases_Bool, lt-leb}, List.{drop_more}, Option.{slice_get_within, get_or_from_slice_get}}, Math.Bool.{and-false}}, specs.Prelude.{slice_get, Some, nat_le}}
use Rattle.hc_fields.specs.{declared.error.FieldError.{FieldError, TheVariants.{BadName, BadValue, TooMany, TooLong, NoMemory}}, FieldList.{IsField, IsFieldList, Refuses, has_name, is_own_value, field_list_with, size_of, without}}
use Rattle.hc_fields.proofs.Edits.{length-put, size_of-put}
use Rattle.hc_validate.specs.Updates.{is_fixed, is_within_limits, is_renewed, left_by, changeable_fields, with_all, FieldPairs}

-- each field of a list is one
pub field_at : (fields : FieldPairs) (i : ℕ) (g : List ℕ × List ℕ) → IsFieldList fields → slice_get fields i ≡ Some g → IsField g
field_at fields i g list is = subst IsField (get_or_from_slice_get fields i g g is) (list.fields i g (slice_get_within fields i g is))

-- what is left by one more name
pub left_by-more : (g : List ℕ × List ℕ) (new fields : FieldPairs) → left_by new (without g.0 fields) ≡ left_by (g ∷ new) fields
left_by-more g new [] = refl
left_by-more g new (f ∷ fs) = elim (cases_Bool (has_name g.0 f)) [
  | inl same ↦ rw same (left_by-more g new fs)
  | inr other ↦ elim (cases_Bool (is_renewed new f)) [
    | inl renewed ↦ rw (other, renewed) (left_by-more g new fs)
    | inr old ↦ rw (other, old) (ap (λ (l : FieldPairs). f ∷ l) (left_by-more g new fs))
  ]
]

-- nothing goes where nothing is new
pub left_by-nil : (fields : FieldPairs) → left_by [] fields ≡ fields
left_by-nil [] = refl
left_by-nil (f ∷ fs) = ap (λ (l : FieldPairs). f ∷ l) (left_by-nil fs)

pub taken-more : (from : FieldPairs) (i : ℕ) (g : List ℕ × List ℕ) → slice_get from i ≡ Some g → is_fixed g ≡ false →
    changeable_fields (drop i from) ≡ g ∷ changeable_fields (drop (i + 1) from)
taken-more from i g is other = rw (drop_more from i g (slice_get_within from i g is), get_or_from_slice_get from i g g is, other) refl

pub taken-fixed : (from : FieldPairs) (i : ℕ) (g : List ℕ × List ℕ) → slice_get from i ≡ Some g → is_fixed g ≡ true →
    changeable_fields (drop i from) ≡ changeable_fields (drop (i + 1) from)
taken-fixed from i g is fixed = rw (drop_more from i g (slice_get_within from i g is), get_or_from_slice_get from i g g is, fixed) refl

pub length-with_all : (new fields : FieldPairs) → length (with_all new fields) ≡ length fields + length new
length-with_all [] fields = omega arith
length-with_all (f ∷ new) fields = omega (arith, length-with_all new (field_list_with f.0 f.1 fields), length-put f.0 f.1 fields)

pub size_of-with_all : (new fields : FieldPairs) → size_of fields ≤ size_of (with_all new fields)
size_of-with_all [] fields = omega arith
size_of-with_all (f ∷ new) fields = omega (arith, size_of-with_all new (field_list_with f.0 f.1 fields), size_of-put f.0 f.1 fields)

-- where a field is refused, the list would be too large
pub refused_large : (e : FieldError) (g : List ℕ × List ℕ) (new fields : FieldPairs) → IsField g → Refuses e fields g.0 g.1 →
    is_within_limits (with_all (g ∷ new) fields) ≡ false
refused_large BadName g new fields field refused = absurd (refused field.is_name)
refused_large BadValue g new fields field refused = absurd (both_ways (is_own_value g.1) refused.1 field.is_value)
refused_large TooMany g new fields field refused =
    rw (lt-leb (length (with_all (g ∷ new) fields)) 64 (omega (arith, refused.2, length-with_all (g ∷ new) fields))) refl
refused_large TooLong g new fields field refused = elim refused.3 [
  | inl long ↦ absurd (omega (arith, long, field.is_short))
  | inr large ↦
      rw (lt-leb (size_of (with_all (g ∷ new) fields)) 32768
      (omega (arith, large, size_of-with_all new (field_list_with g.0 g.1 fields), size_of-put g.0 g.1 fields)))
      (and-false (nat_le (length (with_all (g ∷ new) fields)) 64))
]
refused_large NoMemory g new fields field refused = absurd refused
