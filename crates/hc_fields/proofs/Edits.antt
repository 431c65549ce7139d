-- What adding and removing fields does to a list, and what it keeps.
--
-- All goes by induction over the list. To put a field is to insert it behind those of its name (`put-insert`), so
-- length, size and order follow field by field. The work is in `put-without`, where one field takes the place of those
-- of its name. The first field comes before the name, has it, or comes after it. `IsFieldList-put` and
-- `IsFieldList-without` join what is kept. The last lemmas say which values a name has then.
use Rattle.std.{proofs.{Common.{◌≡◌, ◌≢◌, ℕ, ◌+◌, ◌<◌, ◌≤◌, Bool, true, false, not, List, [], ◌∷◌, ◌++◌, length, take, drop, refl, sym, ap, inl, inr, arith, one-add}, lemmas.{Bool.{cases_Bool, and_from, false_from_ne_true}, List.{Elements.{All-cons, All-head, All-tail, All-filter}, Filters.{sum_by-filter_both, length-filter_both}, Sums.{sum_by-cons}}, Slice.Eq.{bytes_eq-Decides}}}, specs.{Prelude.{filter}, List.{All, insert}}}
use Rattle.hc_fields.specs.FieldList.{comes_before, field_list_with, has_name, values_of, without, size_of, is_sorted, start_of, end_of, IsField, IsFieldList}
use Rattle.hc_fields.proofs.{Names.{one_way, cases_names}, Sorted.{Pair, list_all-weaker, list_all-filter, list_all-put, to_not, sorted_rest, after_rest, filter-after, without-after, start_of-before, start_of-stop, end_of-more, end_of-stop, NoneBefore, start_of-none}}

-- the bytes of one field
abbrev pub bytes_of : Pair → ℕ
bytes_of f = length f.0 + length f.1

-- a field is put at the end of those of its name
pub put-insert : (name value : List ℕ) (fs : List Pair) → field_list_with name value fs ≡ insert fs (end_of name fs) (name, value)
put-insert name value [] = refl
put-insert name value (f ∷ fs) =
    elim (cases_Bool (comes_before name f.0)) [
      | inl before ↦ rw before refl
      | inr after ↦
          rw (after, one-add) (ap (λ (l : List Pair). f ∷ l) (put-insert name value fs))
    ]

pub length-put : (name value : List ℕ) (fs : List Pair) → length (field_list_with name value fs) ≡ length fs + 1
length-put name value [] = refl
length-put name value (f ∷ fs) =
    elim (cases_Bool (comes_before name f.0)) [
      | inl before ↦ rw before (omega arith)
      | inr after ↦ rw after (omega (arith, length-put name value fs))
    ]

pub size_of-put : (name value : List ℕ) (fs : List Pair) → size_of (field_list_with name value fs) ≡ size_of fs + (length name + length value)
size_of-put name value [] = omega arith
size_of-put name value (f ∷ fs) =
    elim (cases_Bool (comes_before name f.0)) [
      | inl before ↦ rw before (omega (arith, sum_by-cons bytes_of (name, value) (f ∷ fs)))
      | inr after ↦
          rw after (omega (arith, size_of-put name value fs, sum_by-cons bytes_of f (field_list_with name value fs), sum_by-cons bytes_of f fs))
    ]

pub All-put : (P : Pair → Type 0) (name value : List ℕ) (fs : List Pair) → P (name, value) → All P fs → All P (field_list_with name value fs)
All-put P name value [] here all = All-cons P (name, value) [] here all
All-put P name value (f ∷ fs) here all =
    elim (cases_Bool (comes_before name f.0)) [
      | inl before ↦ rw before (All-cons P (name, value) (f ∷ fs) here all)
      | inr after ↦
          rw after (All-cons P f (field_list_with name value fs) (All-head P f fs all) (All-put P name value fs here (All-tail P f fs all)))
    ]

pub sorted-put : (name value : List ℕ) (fs : List Pair) → is_sorted fs ≡ true → is_sorted (field_list_with name value fs) ≡ true
sorted-put name value [] sorted = refl
sorted-put name value (f ∷ fs) sorted =
    let both = sorted_rest f fs sorted in
    elim (cases_Bool (comes_before name f.0)) [
      | inl before ↦
          let all = after_rest name f fs before sorted in
          let none = list_all-weaker (λ (g : Pair). comes_before name g.0) (λ (g : Pair). not (comes_before g.0 name))
          (λ g h. to_not g.0 name (one_way name g.0 h)) (f ∷ fs) all in
          rw before (and_from _ _ none sorted)
      | inr after ↦
          let rest = list_all-put (λ (g : Pair). not (comes_before g.0 f.0)) name value fs (to_not name f.0 after) both.0 in
          rw after (and_from _ _ rest (sorted-put name value fs both.1))
    ]

pub sorted-filter : (p : Pair → Bool) (fs : List Pair) → is_sorted fs ≡ true → is_sorted (filter p fs) ≡ true
sorted-filter p [] sorted = refl
sorted-filter p (f ∷ fs) sorted =
    let both = sorted_rest f fs sorted in
    elim (cases_Bool (p f)) [
      | inl passes ↦
          rw passes
          (and_from _ _ (list_all-filter p (λ (g : Pair). not (comes_before g.0 f.0)) fs both.0) (sorted-filter p fs both.1))
      | inr fails ↦ rw fails (sorted-filter p fs both.1)
    ]

-- the fields of a name and all others have the bytes of all
pub size_of-parts : (name : List ℕ) (fs : List Pair) → size_of (filter (has_name name) fs) + size_of (without name fs) ≡ size_of fs
size_of-parts name fs = sum_by-filter_both (has_name name) (λ (f : Pair). not (has_name name f)) (λ _. refl) bytes_of fs

pub length-parts : (name : List ℕ) (fs : List Pair) → length (filter (has_name name) fs) + length (without name fs) ≡ length fs
length-parts name fs = length-filter_both (has_name name) (λ (f : Pair). not (has_name name f)) (λ _. refl) fs

-- a list stays one where a field of its own is put, and where the fields of a name go
pub IsFieldList-put : (name value : List ℕ) (fs : List Pair) → IsFieldList fs → IsField (name, value) → length fs < 80 →
    size_of fs + length name + length value ≤ 49152 → IsFieldList (field_list_with name value fs)
IsFieldList-put name value fs list field few small =
    let length_is = length-put name value fs in
    let size_is = size_of-put name value fs in
    record {
      fields = All-put IsField name value fs field list.fields;
      sorted = sorted-put name value fs list.sorted;
      few = omega arith;
      small = omega arith;
    }

pub IsFieldList-without : (name : List ℕ) (fs : List Pair) → IsFieldList fs → IsFieldList (without name fs)
IsFieldList-without name fs list =
    let lengths = length-parts name fs in
    let sizes = size_of-parts name fs in
    let few = list.few in
    let small = list.small in
    record {
      fields = All-filter (λ (f : Pair). not (has_name name f)) IsField fs list.fields;
      sorted = sorted-filter (λ (f : Pair). not (has_name name f)) fs list.sorted;
      few = omega arith;
      small = omega arith;
    }

-- one field takes the place of those of its name
pub put-without : (name value : List ℕ) (fs : List Pair) → is_sorted fs ≡ true →
    field_list_with name value (without name fs) ≡ take (start_of name fs) fs ++ (name, value) ∷ drop (end_of name fs) fs
put-without name value [] sorted = refl
put-without name value (f ∷ fs) sorted =
    let both = sorted_rest f fs sorted in
    elim (cases_names f.0 name) [
      | inl before ↦
          rw (start_of-before name f fs before.lt, end_of-more name f fs before.back, before.differs, before.back)
          (ap (λ (l : List Pair). f ∷ l) (put-without name value fs both.1))
      | inr more ↦
          elim more [
            | inl same ↦
                let none : NoneBefore name fs = rw same.same at both.0 in
                rw (start_of-stop name f fs same.not_before, end_of-more name f fs same.not_after, same.equal)
                (rw (start_of-none name fs none) at (put-without name value fs both.1))
            | inr after ↦
                rw (
                  start_of-stop name f fs after.not_before,
                  end_of-stop name f fs after.gt,
                  without-after name (f ∷ fs) (after_rest name f fs after.gt sorted),
                  after.gt,
                ) refl
          ]
    ]

-- a name is its own
pub has_name-own : (name value : List ℕ) → has_name name (name, value) ≡ true
has_name-own name value = (bytes_eq-Decides name name).1 refl

pub has_name-other : (name other value : List ℕ) → other ≢ name → has_name other (name, value) ≡ false
has_name-other name other value differ =
    false_from_ne_true _ (λ e. differ (sym ((bytes_eq-Decides name other).0 e)))

pub values_of-put_same : (name value : List ℕ) (fs : List Pair) → is_sorted fs ≡ true →
    values_of name (field_list_with name value fs) ≡ values_of name fs ++ value ∷ []
values_of-put_same name value [] sorted = rw (has_name-own name value) refl
values_of-put_same name value (f ∷ fs) sorted =
    let rest = values_of-put_same name value fs (sorted_rest f fs sorted).1 in
    elim (cases_names f.0 name) [
      | inl before ↦ rw (before.back, before.differs) rest
      | inr more ↦
          elim more [
            | inl same ↦ rw (same.not_after, same.equal) (ap (λ (l : List (List ℕ)). f.1 ∷ l) rest)
            | inr after ↦
                rw (after.gt, has_name-own name value, filter-after name (f ∷ fs) (after_rest name f fs after.gt sorted)) refl
          ]
    ]

pub values_of-put_other : (name value other : List ℕ) (fs : List Pair) → other ≢ name → values_of other (field_list_with name value fs) ≡ values_of other fs
values_of-put_other name value other [] differ = rw (has_name-other name other value differ) refl
values_of-put_other name value other (f ∷ fs) differ =
    let rest = values_of-put_other name value other fs differ in
    elim (cases_Bool (comes_before name f.0)) [
      | inl before ↦ rw (before, has_name-other name other value differ) refl
      | inr after ↦
          elim (cases_Bool (has_name other f)) [
            | inl passes ↦ rw (after, passes) (ap (λ (l : List (List ℕ)). f.1 ∷ l) rest)
            | inr fails ↦ rw (after, fails) rest
          ]
    ]

pub values_of-without_same : (name : List ℕ) (fs : List Pair) → values_of name (without name fs) ≡ []
values_of-without_same name [] = refl
values_of-without_same name (f ∷ fs) =
    elim (cases_Bool (has_name name f)) [
      | inl passes ↦ rw passes (values_of-without_same name fs)
      | inr fails ↦ rw (fails, fails) (values_of-without_same name fs)
    ]

pub values_of-without_other : (name other : List ℕ) (fs : List Pair) → other ≢ name → values_of other (without name fs) ≡ values_of other fs
values_of-without_other name other [] differ = refl
values_of-without_other name other (f ∷ fs) differ =
    let rest = values_of-without_other name other fs differ in
    elim (cases_Bool (has_name name f)) [
      | inl passes ↦
          let is : f.0 ≡ name = (bytes_eq-Decides f.0 name).0 passes in
          rw (passes, is, has_name-other name other f.1 differ) rest
      | inr fails ↦
          elim (cases_Bool (has_name other f)) [
            | inl has ↦ rw (fails, has) (ap (λ (l : List (List ℕ)). f.1 ∷ l) rest)
            | inr lacks ↦ rw (fails, lacks) rest
          ]
    ]

pub sorted-without : (name : List ℕ) (fs : List Pair) → is_sorted fs ≡ true → is_sorted (without name fs) ≡ true
sorted-without name fs sorted = sorted-filter (λ (f : Pair). not (has_name name f)) fs sorted
