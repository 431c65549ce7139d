-- Sorted lists of fields: where a name stands, and what keeps the order.
--
-- By induction over a list, where the fields of a name start and end is counted field by field. `is_parted` has the
-- work: a first field comes before the name, has it, or comes after it. If it has it, no later one comes before; if it
-- comes after, all do (`after_rest`). So the fields of a name stand together, with all others round them.
-- `list_all-put` and `list_all-filter` say that a test of all fields still holds. Edits of a list use these.
use Rattle.std.{proofs.{Common.{◌≡◌, ℕ, zero, suc, ◌+◌, ◌<◌, ◌≤◌, Bool, true, false, not, List, [], ◌∷◌, ◌++◌, length, take, drop, get_or, refl, ap, inl, inr, arith, one-add}, lemmas.Bool.{cases_Bool, and_parts, and_from, both_ways}}, specs.{Prelude.{filter, ◌&&◌}, List.{list_all}}}
use Rattle.hc_fields.specs.FieldList.{comes_before, field_list_with, has_name, without, is_sorted, start_of, end_of}
use Rattle.hc_fields.proofs.Names.{irreflexive, before_upto, differs_from_before, bytes_eq-swap, cases_names}

abbrev pub Pair : Type 0
Pair = List ℕ × List ℕ

pub list_all-weaker : (p q : Pair → Bool) → ((f : Pair) → p f ≡ true → q f ≡ true) → (fs : List Pair) → list_all p fs ≡ true → list_all q fs ≡ true
list_all-weaker p q h [] all = refl
list_all-weaker p q h (f ∷ fs) all =
    let both = and_parts (p f) (list_all p fs) all in
    and_from (q f) (list_all q fs) (h f both.0) (list_all-weaker p q h fs both.1)

pub list_all-filter : (p q : Pair → Bool) (fs : List Pair) → list_all q fs ≡ true → list_all q (filter p fs) ≡ true
list_all-filter p q [] all = refl
list_all-filter p q (f ∷ fs) all =
    let both = and_parts (q f) (list_all q fs) all in
    let rest = list_all-filter p q fs both.1 in
    elim (cases_Bool (p f)) [
      | inl passes ↦ rw passes (and_from (q f) (list_all q (filter p fs)) both.0 rest)
      | inr fails ↦ rw fails rest
    ]

pub list_all-put : (q : Pair → Bool) (name value : List ℕ) (fs : List Pair) → q (name, value) ≡ true → list_all q fs ≡ true →
    list_all q (field_list_with name value fs) ≡ true
list_all-put q name value [] here all = and_from (q (name, value)) true here refl
list_all-put q name value (f ∷ fs) here all =
    let both = and_parts (q f) (list_all q fs) all in
    elim (cases_Bool (comes_before name f.0)) [
      | inl before ↦ rw before (and_from (q (name, value)) (q f && list_all q fs) here all)
      | inr after ↦
          rw after (and_from (q f) (list_all q (field_list_with name value fs)) both.0 (list_all-put q name value fs here both.1))
    ]

pub list_all_at : (p : Pair → Bool) (fs : List Pair) (k : ℕ) (d : Pair) → k < length fs → list_all p fs ≡ true → p (get_or fs k d) ≡ true
list_all_at p [] k d lt all = absurd (omega arith)
list_all_at p (f ∷ fs) zero d lt all = (and_parts (p f) (list_all p fs) all).0
list_all_at p (f ∷ fs) (suc k) d lt all = list_all_at p fs k d (omega arith) (and_parts (p f) (list_all p fs) all).1

-- no name of the list comes before this one
abbrev pub NoneBefore : List ℕ → List Pair → Type 0
NoneBefore name fs = list_all (λ (g : Pair). not (comes_before g.0 name)) fs ≡ true

-- each name of the list comes after this one
abbrev pub AllAfter : List ℕ → List Pair → Type 0
AllAfter name fs = list_all (λ (g : Pair). comes_before name g.0) fs ≡ true

pub not_before : (a b : List ℕ) → not (comes_before a b) ≡ true → comes_before a b ≡ false
not_before a b h = elim (cases_Bool (comes_before a b)) [ inl before ↦ absurd (both_ways _ refl (rw before at h)) | inr fails ↦ fails ]

pub to_not : (a b : List ℕ) → comes_before a b ≡ false → not (comes_before a b) ≡ true
to_not a b h = rw h refl

pub start_of-before : (name : List ℕ) (f : Pair) (fs : List Pair) → comes_before f.0 name ≡ true → start_of name (f ∷ fs) ≡ suc (start_of name fs)
start_of-before name f fs h = rw (h, one-add) refl

pub start_of-stop : (name : List ℕ) (f : Pair) (fs : List Pair) → comes_before f.0 name ≡ false → start_of name (f ∷ fs) ≡ 0
start_of-stop name f fs h = rw h refl

pub end_of-more : (name : List ℕ) (f : Pair) (fs : List Pair) → comes_before name f.0 ≡ false → end_of name (f ∷ fs) ≡ suc (end_of name fs)
end_of-more name f fs h = rw (h, one-add) refl

pub end_of-stop : (name : List ℕ) (f : Pair) (fs : List Pair) → comes_before name f.0 ≡ true → end_of name (f ∷ fs) ≡ 0
end_of-stop name f fs h = rw h refl

pub start_of-none : (name : List ℕ) (fs : List Pair) → NoneBefore name fs → start_of name fs ≡ 0
start_of-none name [] h = refl
start_of-none name (f ∷ fs) h = start_of-stop name f fs (not_before f.0 name (and_parts _ _ h).0)

has_name-after : (name : List ℕ) (f : Pair) → comes_before name f.0 ≡ true → has_name name f ≡ false
has_name-after name f h = bytes_eq-swap name f.0 (differs_from_before name f.0 h)

pub filter-after : (name : List ℕ) (fs : List Pair) → AllAfter name fs → filter (has_name name) fs ≡ []
filter-after name [] h = refl
filter-after name (f ∷ fs) h =
    let both = and_parts _ _ h in rw (has_name-after name f both.0) (filter-after name fs both.1)

pub without-after : (name : List ℕ) (fs : List Pair) → AllAfter name fs → without name fs ≡ fs
without-after name [] h = refl
without-after name (f ∷ fs) h =
    let both = and_parts _ _ h in rw (has_name-after name f both.0) (ap (λ (l : List Pair). f ∷ l) (without-after name fs both.1))

-- the fields of a name stand together, and all others round them
pub record IsParted (name : List ℕ) (fs : List Pair) : Type 0 where
  pub named : drop (start_of name fs) fs ≡ filter (has_name name) fs ++ drop (end_of name fs) fs
  pub others : without name fs ≡ take (start_of name fs) fs ++ drop (end_of name fs) fs
  pub end_is : end_of name fs ≡ start_of name fs + length (filter (has_name name) fs)

-- the order goes on behind the first field
pub sorted_rest : (f : Pair) (fs : List Pair) → is_sorted (f ∷ fs) ≡ true → (list_all (λ (g : Pair). not (comes_before g.0 f.0)) fs ≡ true) ×
    (is_sorted fs ≡ true)
sorted_rest f fs h = and_parts _ _ h

-- behind a field that comes after the name all do
pub after_rest : (name : List ℕ) (f : Pair) (fs : List Pair) → comes_before name f.0 ≡ true → is_sorted (f ∷ fs) ≡ true → AllAfter name (f ∷ fs)
after_rest name f fs gt sorted =
    and_from _ _ gt
    (list_all-weaker (λ (g : Pair). not (comes_before g.0 f.0)) (λ (g : Pair). comes_before name g.0)
    (λ g h. before_upto name f.0 g.0 gt (not_before g.0 f.0 h)) fs (sorted_rest f fs sorted).0)

pub is_parted : (name : List ℕ) (fs : List Pair) → is_sorted fs ≡ true → IsParted name fs
is_parted name [] sorted = record { named = refl; others = refl; end_is = refl }
is_parted name (f ∷ fs) sorted =
    let both = sorted_rest f fs sorted in
    let rest = is_parted name fs both.1 in
    elim (cases_names f.0 name) [
      | inl before ↦
          record {
            named = rw (start_of-before name f fs before.lt, end_of-more name f fs before.back, before.differs) rest.named;
            others = rw (start_of-before name f fs before.lt, end_of-more name f fs before.back, before.differs) (ap (λ (l : List Pair). f ∷ l) rest.others);
            end_is = rw (start_of-before name f fs before.lt, end_of-more name f fs before.back, before.differs) (omega (arith, rest.end_is));
          }
      | inr more ↦
          elim more [
            | inl same ↦
                let none : NoneBefore name fs = rw same.same at both.0 in
                let zero = start_of-none name fs none in
                record {
                  named = rw (start_of-stop name f fs same.not_before, end_of-more name f fs same.not_after, same.equal)
                      (ap (λ (l : List Pair). f ∷ l) (rw zero at rest.named));
                  others = rw (start_of-stop name f fs same.not_before, end_of-more name f fs same.not_after, same.equal) (rw zero at rest.others);
                  end_is = rw (start_of-stop name f fs same.not_before, end_of-more name f fs same.not_after, same.equal) (omega (arith, rest.end_is, zero));
                }
            | inr after ↦
                let all = after_rest name f fs after.gt sorted in
                record {
                  named = rw (start_of-stop name f fs after.not_before, end_of-stop name f fs after.gt, filter-after name (f ∷ fs) all) refl;
                  others = rw (start_of-stop name f fs after.not_before, end_of-stop name f fs after.gt, without-after name (f ∷ fs) all) refl;
                  end_is = rw (start_of-stop name f fs after.not_before, end_of-stop name f fs after.gt, filter-after name (f ∷ fs) all) refl;
                }
          ]
    ]

-- no field comes before an earlier one
pub sorted_at : (fs : List Pair) (i j : ℕ) (d : Pair) → is_sorted fs ≡ true → i ≤ j → j < length fs → comes_before (get_or fs j d).0 (get_or fs i d).0 ≡ false
sorted_at [] i j d sorted le lt = absurd (omega arith)
sorted_at (f ∷ fs) zero zero d sorted le lt = irreflexive f.0
sorted_at (f ∷ fs) zero (suc j) d sorted le lt =
    not_before (get_or fs j d).0 f.0 (list_all_at (λ (g : Pair). not (comes_before g.0 f.0)) fs j d (omega arith) (sorted_rest f fs sorted).0)
sorted_at (f ∷ fs) (suc i) zero d sorted le lt = absurd (omega arith)
sorted_at (f ∷ fs) (suc i) (suc j) d sorted le lt = sorted_at fs i j d (sorted_rest f fs sorted).1 (omega arith) (omega arith)
