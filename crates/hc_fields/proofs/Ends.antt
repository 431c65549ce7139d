-- The ends of a list of fields: what may follow it, and what it begins with.
use Rattle.std.{proofs.{Common.{◌≡◌, ℕ, suc, ◌+◌, ◌-◌, ◌<◌, Bool, true, false, not, List, [], ◌∷◌, ◌++◌, length, get_or, Some, refl, ap, inl, inr, arith, length-append}, lemmas.{Bool.{cases_Bool, and_parts, and_from, both_ways, false_from_ne_true}, List.{get_or_append_left, get_or_at, Elements.{All-nil}, Sums.{sum_by-append}}, Option.{get_or_from_slice_get, slice_get_within}}}, specs.{Prelude.{slice_get}, List.{All, list_all}}}
use Rattle.hc_fields.specs.FieldList.{comes_before, field_list_with, is_sorted, IsField, IsFieldList}
use Rattle.hc_fields.proofs.{Names.{chain}, Sorted.{Pair, list_all_at, not_before, to_not, sorted_at, sorted_rest}}

list_all-append : (p : Pair → Bool) (fs gs : List Pair) → list_all p (fs ++ gs) ≡ true → list_all p fs ≡ true
list_all-append p [] gs h = refl
list_all-append p (f ∷ fs) gs h =
    let both = and_parts _ _ h in and_from _ _ both.0 (list_all-append p fs gs both.1)

list_all-last : (p : Pair → Bool) (fs : List Pair) (g : Pair) → list_all p (fs ++ g ∷ []) ≡ true → p g ≡ true
list_all-last p [] g h = (and_parts _ _ h).0
list_all-last p (f ∷ fs) g h = list_all-last p fs g (and_parts _ _ h).1

list_all_from : (p : Pair → Bool) (fs : List Pair) (d : Pair) → ((k : ℕ) → k < length fs → p (get_or fs k d) ≡ true) → list_all p fs ≡ true
list_all_from p [] d h = refl
list_all_from p (f ∷ fs) d h =
    and_from _ _ (h 0 (omega arith)) (list_all_from p fs d (λ k lt. h (suc k) (omega arith)))

-- no name of the list comes after this one
abbrev pub NoneAfter : List ℕ → List Pair → Type 0
NoneAfter name fs = list_all (λ (f : Pair). not (comes_before name f.0)) fs ≡ true

-- the last name tells for all
pub none_after-last : (name : List ℕ) (fs : List Pair) (last : Pair) → is_sorted fs ≡ true → slice_get fs (length fs - 1) ≡ Some last →
    not (comes_before name last.0) ≡ list_all (λ (f : Pair). not (comes_before name f.0)) fs
none_after-last name fs last sorted is =
    let within = slice_get_within fs (length fs - 1) last is in
    let at = get_or_from_slice_get fs (length fs - 1) last last is in
    elim (cases_Bool (comes_before name last.0)) [
      | inl before ↦
          let fails : list_all (λ (f : Pair). not (comes_before name f.0)) fs ≡ false =
          false_from_ne_true _ (λ all.
          let one = rw at at (list_all_at (λ (f : Pair). not (comes_before name f.0)) fs (length fs - 1) last within all) in
          both_ways _ (not_before name last.0 one) before) in
          rw (before, fails) refl
      | inr after ↦
          let all : NoneAfter name fs =
          list_all_from (λ (f : Pair). not (comes_before name f.0)) fs last (λ k lt.
          let le = rw at at (sorted_at fs k (length fs - 1) last sorted (omega arith) within) in
          to_not name _ (chain name last.0 _ after le)) in
          rw (after, all) refl
    ]

-- a field that comes after none is put last
pub put-last : (name value : List ℕ) (fs : List Pair) → NoneAfter name fs → field_list_with name value fs ≡ fs ++ (name, value) ∷ []
put-last name value [] h = refl
put-last name value (f ∷ fs) h =
    let both = and_parts _ _ h in
    rw (not_before name f.0 both.0) (ap (λ (l : List Pair). f ∷ l) (put-last name value fs both.1))

pub sorted-prefix : (fs gs : List Pair) → is_sorted (fs ++ gs) ≡ true → is_sorted fs ≡ true
sorted-prefix [] gs sorted = refl
sorted-prefix (f ∷ fs) gs sorted =
    let both = sorted_rest f (fs ++ gs) sorted in
    and_from _ _ (list_all-append (λ (g : Pair). not (comes_before g.0 f.0)) fs gs both.0) (sorted-prefix fs gs both.1)

-- no name comes after that of the last field
pub sorted-last : (fs : List Pair) (g : Pair) → is_sorted (fs ++ g ∷ []) ≡ true → NoneAfter g.0 fs
sorted-last [] g sorted = refl
sorted-last (f ∷ fs) g sorted =
    let both = sorted_rest f (fs ++ g ∷ []) sorted in
    and_from _ _ (list_all-last (λ (h : Pair). not (comes_before h.0 f.0)) fs g both.0) (sorted-last fs g both.1)

All-prefix : (P : Pair → Type 0) (fs gs : List Pair) → All P (fs ++ gs) → All P fs
All-prefix P fs gs all k d lt =
    rw (get_or_append_left fs gs d k lt) at (all k d (omega (arith, length-append fs gs)))

-- the fields of a list to some place are a list
pub IsFieldList-prefix : (fs gs : List Pair) → IsFieldList (fs ++ gs) → IsFieldList fs
IsFieldList-prefix fs gs list =
    let sizes = sum_by-append (λ (f : Pair). length f.0 + length f.1) fs gs in
    let few = list.few in
    let small = list.small in
    record {
      fields = All-prefix IsField fs gs list.fields;
      sorted = sorted-prefix fs gs list.sorted;
      few = omega (arith, few, length-append fs gs);
      small = omega (arith, small, sizes);
    }

pub IsField-last : (fs : List Pair) (g : Pair) → IsFieldList (fs ++ g ∷ []) → IsField g
IsField-last fs g list =
    rw (get_or_at fs g [] g (length fs) refl) at (list.fields (length fs) g (omega (arith, length-append fs (g ∷ []))))

pub IsFieldList-nil : IsFieldList []
IsFieldList-nil = record { fields = All-nil IsField; sorted = refl; few = omega arith; small = omega arith }
