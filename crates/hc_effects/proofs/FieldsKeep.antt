-- No length stands among the fields of a stored head, and they stay within limits.
--
-- An update leaves out the names that are fixed (`taken_free`). So of such a name no value is taken, and none of the
-- old ones goes (`left_of`): its values stay (`values_kept`). Length and range are such names (`length_kept`,
-- `range_kept`). What is founded has neither (`length_none`, `range_none`), but keeps its tag (`etag_kept`). That
-- fields stay within limits is by induction over them.
use Rattle.std.{proofs.{Common.{◌≡◌, ◌≢◌, inl, inr, ℕ, ◌≤◌, List, [], ◌∷◌, length, Bool, true, false, refl, ap, sym, ◌∙◌, arith}, lemmas.Bool.Decides.{nat_tests}}, specs.{Prelude.{bytes_eq, nat_lt, if◌then◌else◌, codes}, List.{list_any}}}
use Rattle.hc_text.proofs.Basics.{bool_cases, never_true as not_true}
use Rattle.hc_fields.specs.{FieldList.{values_of, has_name, field_list_with, without, size_of}, FirstValues.{has_field}}
use Rattle.hc_fields.proofs.Edits.{values_of-put_other, values_of-without_same, values_of-without_other}
use Rattle.hc_rules.proofs.RangeReads.{same_bytes, bytes_eq-same}
use Rattle.hc_validate.specs.Updates.{fixed_names, is_fixed, changeable_fields, is_renewed, with_all, left_by, fields_with, is_within_limits, updated_fields, FieldPairs}
use Rattle.hc_validate.proofs.Settings.{length-without, size_of-without}
use Rattle.hc_effects.proofs.Vocabulary.{kept_fields}
use Rattle.hc_effects.proofs.Basics.{false_true}

-- A NAME THAT NO UPDATE CHANGES

module _ (name : List ℕ) (fixed : list_any (bytes_eq name) fixed_names ≡ true) where
  -- a name that may change isn't this one
  not_it : (f : List ℕ × List ℕ) → is_fixed f ≡ false → bytes_eq f.0 name ≡ false
  not_it f free = not_true _ (λ here.
      let is : f.0 ≡ name = same_bytes f.0 name here in
      false_true (sym free ∙ (ap (λ n. list_any (bytes_eq n) fixed_names) is ∙ fixed)))

  -- each may change
  abbrev AllFree : FieldPairs → Type 0
  AllFree [] = Unit {0}
  AllFree (f ∷ fs) = (is_fixed f ≡ false) × AllFree fs

  taken_free : (fields : FieldPairs) → AllFree (changeable_fields fields)
  taken_free [] = tt
  taken_free (f ∷ fs) = elim (bool_cases (is_fixed f)) [
    | inl stays ↦ rw stays (taken_free fs)
    | inr free ↦ rw free (free, taken_free fs)
  ]

  with_all_of : (new fields : FieldPairs) → AllFree new → values_of name (with_all new fields) ≡ values_of name fields
  with_all_of [] fields free = refl
  with_all_of (f ∷ new) fields free =
      with_all_of new (field_list_with f.0 f.1 fields) free.1
      ∙ values_of-put_other f.0 f.1 name fields (λ same. false_true (sym (not_it f free.0) ∙ bytes_eq-same f.0 name (sym same)))

  renewed_not : (f : List ℕ × List ℕ) (new : FieldPairs) → AllFree new → f.0 ≡ name → is_renewed new f ≡ false
  renewed_not f [] free is = refl
  renewed_not f (g ∷ new) free is =
      let other : bytes_eq f.0 g.0 ≡ false =
      not_true _ (λ same. false_true (sym (not_it g free.0) ∙ bytes_eq-same g.0 name (sym (same_bytes f.0 g.0 same) ∙ is))) in
      rw other (renewed_not f new free.1 is)

  left_of : (new fields : FieldPairs) → AllFree new → values_of name (left_by new fields) ≡ values_of name fields
  left_of new [] free = refl
  left_of new (f ∷ fs) free = elim (bool_cases (has_name name f)) [
    | inl here ↦ let stays : is_renewed new f ≡ false = renewed_not f new free (same_bytes f.0 name here) in
        rw (stays, here) (ap (λ (l : List (List ℕ)). f.1 ∷ l) (left_of new fs free))
    | inr other ↦ elim (bool_cases (is_renewed new f)) [
      | inl gone ↦ rw (gone, other) (left_of new fs free)
      | inr stays ↦ rw (stays, other) (left_of new fs free)
    ]
  ]

  -- its values stay
  pub values_kept : (fields new : FieldPairs) → values_of name (updated_fields fields new) ≡ values_of name fields
  values_kept fields new = by_test (is_within_limits (fields_with fields (changeable_fields new)))
    where
      by_test : (b : Bool) → values_of name (if b then fields_with fields (changeable_fields new) else fields) ≡ values_of name fields
      by_test true = with_all_of (changeable_fields new) (left_by (changeable_fields new) fields) (taken_free new) ∙
          left_of (changeable_fields new) fields (taken_free new)
      by_test false = refl

abbrev pub length_name : List ℕ
length_name = codes "content-length"

abbrev pub range_name : List ℕ
range_name = codes "content-range"

has_by : (values other : List (List ℕ)) → values ≡ other → nat_lt 0 (length values) ≡ nat_lt 0 (length other)
has_by values other same = ap (λ (l : List (List ℕ)). nat_lt 0 (length l)) same

pub length_kept : (fields new : FieldPairs) → has_field length_name (updated_fields fields new) ≡ has_field length_name fields
length_kept fields new = has_by _ _ (values_kept length_name refl fields new)

pub range_kept : (fields new : FieldPairs) → has_field range_name (updated_fields fields new) ≡ has_field range_name fields
range_kept fields new = has_by _ _ (values_kept range_name refl fields new)

-- WHAT IS FOUNDED

other_names : length_name ≢ range_name
other_names same = let no : bytes_eq length_name range_name ≡ true = bytes_eq-same length_name range_name same in false_true no

pub length_none : (fields : FieldPairs) → has_field length_name (kept_fields fields) ≡ false
length_none fields = has_by _ [] (values_of-without_same length_name (without range_name fields))

pub range_none : (fields : FieldPairs) → has_field range_name (kept_fields fields) ≡ false
range_none fields = has_by _ [] (values_of-without_other length_name range_name (without range_name fields) (λ same. other_names (sym same)) ∙
    values_of-without_same range_name fields)

pub etag_kept : (fields : FieldPairs) → values_of (codes "etag") (kept_fields fields) ≡ values_of (codes "etag") fields
etag_kept fields =
    values_of-without_other length_name (codes "etag") (without range_name fields) (λ same. false_true (bytes_eq-same (codes "etag") length_name same))
    ∙ values_of-without_other range_name (codes "etag") fields (λ same. false_true (bytes_eq-same (codes "etag") range_name same))

-- MODEST FIELDS

pub within_limits_kept : (fields new : FieldPairs) → is_within_limits fields ≡ true → is_within_limits (updated_fields fields new) ≡ true
within_limits_kept fields new old = grind (arith, nat_tests)

within_limits_by : (a b : FieldPairs) → length b ≤ length a → size_of b ≤ size_of a → is_within_limits a ≡ true → is_within_limits b ≡ true
within_limits_by a b fewer smaller is = grind (arith, nat_tests)

without_within_limits : (name : List ℕ) (fields : FieldPairs) → is_within_limits fields ≡ true → is_within_limits (without name fields) ≡ true
without_within_limits name fields is = within_limits_by fields (without name fields) (length-without name fields) (size_of-without name fields) is

pub within_limits_founded : (fields : FieldPairs) → is_within_limits fields ≡ true → is_within_limits (kept_fields fields) ≡ true
within_limits_founded fields is = without_within_limits length_name (without range_name fields) (without_within_limits range_name fields is)
