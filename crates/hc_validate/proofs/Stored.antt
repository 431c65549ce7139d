-- The values of a stored head are values of fields.
use Rattle.std.{proofs.{Common.{◌≡◌, ℕ, zero, suc, ◌≤◌, true, List, [], ◌∷◌, length, inl, inr, subst, arith}, lemmas.Bool.{cases_Bool}}, specs.Prelude.{All, Some, slice_get}}
use Rattle.hc_fields.specs.{FieldList.{IsField, IsFieldList, has_name, is_own_value, values_of}, FirstValues.{first_value}}
use Rattle.hc_validate.specs.Updates.{FieldPairs}

-- a value that a field may have
pub record IsFit (value : List ℕ) : Type 0 where
  pub own : is_own_value value ≡ true
  pub short : length value ≤ 8192

at_first : (f : List ℕ × List ℕ) (values : List (List ℕ)) (i : ℕ) (value : List ℕ) → IsField f
    → ((j : ℕ) → slice_get values j ≡ Some value → IsFit value) → slice_get (f.1 ∷ values) i ≡ Some value → IsFit value
at_first f values zero value field rest is =
    let same : f.1 ≡ value = cc in
    subst IsFit same (record { own = field.is_value; short = field.is_short })
at_first f values (suc i) value field rest is = rest i is

value_fits : (name : List ℕ) (fields : FieldPairs) (i : ℕ) (value : List ℕ) → All IsField fields → slice_get (values_of name fields) i ≡ Some value →
    IsFit value
value_fits name [] i value all is = cc
value_fits name (f ∷ fs) i value all is =
    let rest : All IsField fs = λ k d within. all (suc k) d (omega arith) in
    elim (cases_Bool (has_name name f)) [
      | inl named ↦ at_first f (values_of name fs) i value (all 0 f (omega arith)) (λ j e. value_fits name fs j value rest e) (rw named at is)
      | inr other ↦ value_fits name fs i value rest (rw other at is)
    ]

pub first_fits : (name : List ℕ) (fields : FieldPairs) (value : List ℕ) → IsFieldList fields → first_value name fields ≡ Some value → IsFit value
first_fits name fields value list is = value_fits name fields 0 value list.fields is
