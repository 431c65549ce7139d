-- What a binary search over marks finds, as a place in the list of their fields.
--
-- Names of a sorted list ascend, so what fails a test stands before what passes it (`ascending_start`,
-- `ascending_end`). A step of the search moves one end of the range that is left (`searched_right`, `searched_left`).
-- An empty range is the place (`searched`). The search for a name also knows whether the field at the upper end has it.
-- `narrowed_left` has the work: the new field there has the name, or comes after it, and so do all behind.
use Rattle.std.{proofs.{Common.{◌≡◌, ℕ, ◌+◌, ◌<◌, ◌≤◌, Bool, true, false, not, List, [], ◌∷◌, length, get_or, Ordering, ap, inl, inr, refl, sym, ◌∙◌, arith}, lemmas.{Cmp.{nat_list_cmp_total}, Bool.{not-false, both_ways, true_from_ne_false, cases_Bool, cases_lt}, List.{get_or-map, Sums.{position_or_len_is, fails_before_first, passes_at_first}}, Slice.Eq.{bytes_eq-Decides}}}, specs.{Prelude.{filter}, List.{position_or_len}, Ordering.{nat_cmp, is_lt, is_eq, is_gt, ordering_reverse}, Cmp.Lexicographic.{slice_cmp}, declared.cmp.Ordering.TheVariants.{Less, Equal, Greater}}}
use Rattle.hc_fields.specs.{declared.mark.Mark.{Mark}, FieldList.{comes_before, has_name, is_sorted, start_of, end_of}, Marks.{field_at, fields_at}}
use Rattle.hc_fields.proofs.{Names.{one_way, chain, irreflexive, upto_before, cases_names}, Sorted.{Pair, sorted_at}}

-- any mark, for reads past the end of a list
abbrev pub no_mark : Mark
no_mark = record { start = 0; colon = 0; end = 0 }

-- how far a search has come: before `low` the test fails, and from `high` on it passes
pub record Searched (test : Pair → Bool) (fs : List Pair) (low high : ℕ) : Type 0 where
  pub order : low ≤ high
  pub within : high ≤ length fs
  pub fails : (k : ℕ) → k < low → test (get_or fs k ([], [])) ≡ false
  pub passes : (k : ℕ) → high ≤ k → k < length fs → test (get_or fs k ([], [])) ≡ true

-- where a field fails, so do all before it
abbrev pub IsAscending : (Pair → Bool) → List Pair → Type 0
IsAscending test fs =
    (i j : ℕ) → i ≤ j → j < length fs → test (get_or fs j ([], [])) ≡ false → test (get_or fs i ([], [])) ≡ false

pub searched_right : (test : Pair → Bool) (fs : List Pair) (low middle high : ℕ) → IsAscending test fs → Searched test fs low high → middle < high →
    test (get_or fs middle ([], [])) ≡ false → Searched test fs (middle + 1) high
searched_right test fs low middle high ascending s lt here =
    let within = s.within in
    record {
      order = omega arith;
      within = within;
      fails = λ k below. ascending k middle (omega arith) (omega arith) here;
      passes = s.passes;
    }

pub searched_left : (test : Pair → Bool) (fs : List Pair) (low middle high : ℕ) → IsAscending test fs → Searched test fs low high → low ≤ middle →
    middle < high → test (get_or fs middle ([], [])) ≡ true → Searched test fs low middle
searched_left test fs low middle high ascending s le lt here =
    let within = s.within in
    record {
      order = le;
      within = omega arith;
      fails = s.fails;
      passes = λ k above k_lt. true_from_ne_false _ (λ e. both_ways _ (ascending middle k above k_lt e) here);
    }

pub searched : (test : Pair → Bool) (fs : List Pair) (low high : ℕ) → Searched test fs low high → high ≤ low → low ≡ position_or_len test fs
searched test fs low high s le =
    let order = s.order in
    let within = s.within in
    sym (position_or_len_is test fs low ([], []) (omega arith) s.fails (λ lt. s.passes low (omega arith) lt))

abbrev pub not_before : List ℕ → Pair → Bool
not_before name f = not (comes_before f.0 name)

abbrev pub is_behind : List ℕ → Pair → Bool
is_behind name f = comes_before name f.0

-- no kept field comes before an earlier one
pub ascending_start : (name : List ℕ) (fs : List Pair) → is_sorted fs ≡ true → IsAscending (not_before name) fs
ascending_start name fs sorted i j le lt h =
    let before : comes_before (get_or fs j ([], [])).0 name ≡ true = not-false _ h in
    rw (upto_before (get_or fs i ([], [])).0 (get_or fs j ([], [])).0 name (sorted_at fs i j ([], []) sorted le lt) before) refl

pub ascending_end : (name : List ℕ) (fs : List Pair) → is_sorted fs ≡ true → IsAscending (is_behind name) fs
ascending_end name fs sorted i j le lt h =
    chain name (get_or fs j ([], [])).0 (get_or fs i ([], [])).0 h (sorted_at fs i j ([], []) sorted le lt)

-- before the fields of a name none comes after it
pub before_start : (name : List ℕ) (fs : List Pair) (k : ℕ) → k < start_of name fs → comes_before name (get_or fs k ([], [])).0 ≡ false
before_start name fs k lt =
    one_way (get_or fs k ([], [])).0 name (not-false _ (fails_before_first (not_before name) fs k ([], []) lt))

-- the field at a mark of the list
pub nth_is : (text : List ℕ) (marks : List Mark) (i : ℕ) (d : Mark) → i < length marks →
    get_or (fields_at text marks) i ([], []) ≡ field_at text (get_or marks i d)
nth_is text marks i d lt = get_or-map (field_at text) marks i d ([], []) lt

is_gt-reverse : (o : Ordering) → is_gt (ordering_reverse o) ≡ is_lt o
is_gt-reverse Less = refl
is_gt-reverse Equal = refl
is_gt-reverse Greater = refl

is_lt-rest : (o : Ordering) → is_gt o ≡ false → is_eq o ≡ false → is_lt o ≡ true
is_lt-rest Less gt eq = refl
is_lt-rest Equal gt eq = absurd (both_ways _ eq refl)
is_lt-rest Greater gt eq = absurd (both_ways _ gt refl)

is_lt-equal : (o : Ordering) → is_eq o ≡ true → is_lt o ≡ false
is_lt-equal Less eq = absurd (both_ways _ refl eq)
is_lt-equal Equal eq = refl
is_lt-equal Greater eq = refl

-- how a name compares with that of a field tells whether the field comes before it
before_by_order : (name : List ℕ) (f : Pair) → comes_before f.0 name ≡ is_gt (slice_cmp nat_cmp name f.0)
before_by_order name f = rw (nat_list_cmp_total.antisymm name f.0) (sym (is_gt-reverse (slice_cmp nat_cmp f.0 name)))

-- how far the search for a name has come: between `low` and `high`, and whether the field at `high` has the name; where
-- it hasn't, all fields from there on come after it
pub record Narrowed (name : List ℕ) (fs : List Pair) (low high : ℕ) (found : Bool) : Type 0 where
  pub place : Searched (not_before name) fs low high
  pub absent : found ≡ false → (k : ℕ) → high ≤ k → k < length fs → is_behind name (get_or fs k ([], [])) ≡ true
  pub present : found ≡ true → (high < length fs) × (is_behind name (get_or fs high ([], [])) ≡ false)

pub narrowed_right : (name : List ℕ) (fs : List Pair) (low middle high : ℕ) (found : Bool) (o : Ordering)
    → is_sorted fs ≡ true → Narrowed name fs low high found → middle < high
    → o ≡ slice_cmp nat_cmp name (get_or fs middle ([], [])).0 → is_gt o ≡ true → Narrowed name fs (middle + 1) high found
narrowed_right name fs low middle high found o sorted n lt is gt =
    record {
      place = searched_right (not_before name) fs low middle high (ascending_start name fs sorted) n.place lt
          (rw (before_by_order name (get_or fs middle ([], [])), ← is, gt) refl);
      absent = n.absent;
      present = n.present;
    }

pub narrowed_left : (name : List ℕ) (fs : List Pair) (low middle high : ℕ) (found : Bool) (o : Ordering)
    → is_sorted fs ≡ true → Narrowed name fs low high found → low ≤ middle → middle < high
    → o ≡ slice_cmp nat_cmp name (get_or fs middle ([], [])).0 → is_gt o ≡ false → Narrowed name fs low middle (is_eq o)
narrowed_left name fs low middle high found o sorted n le lt is gt =
    record {
      place = searched_left (not_before name) fs low middle high (ascending_start name fs sorted) n.place le lt
          (rw (before_by_order name (get_or fs middle ([], [])), ← is, gt) refl);
      absent = λ other k above k_lt.
          let behind : is_behind name (get_or fs middle ([], [])) ≡ true = ap is_lt (sym is) ∙ is_lt-rest o gt other in
          true_from_ne_false _ (λ e. both_ways _ (ascending_end name fs sorted middle k above k_lt e) behind);
      present = λ same.
          let within = n.place.within in
          (omega (arith, lt, within), ap is_lt (sym is) ∙ is_lt-equal o same);
    }

-- where no field has the name, those of the name end where they begin
pub narrowed_absent : (name : List ℕ) (fs : List Pair) (low high : ℕ) (found : Bool)
    → Narrowed name fs low high found → high ≤ low → found ≡ false → low ≡ end_of name fs
narrowed_absent name fs low high found n le off =
    let start = searched (not_before name) fs low high n.place le in
    let within = n.place.within in
    let order = n.place.order in
    sym (position_or_len_is (is_behind name) fs low ([], []) (omega (arith, within, order, le)) (λ k lt. before_start name fs k (rw start at lt))
    (λ lt. n.absent off low le lt))

-- where a field has the name, those of the name end behind it
pub narrowed_present : (name : List ℕ) (fs : List Pair) (low high : ℕ) (found : Bool)
    → is_sorted fs ≡ true → Narrowed name fs low high found → high ≤ low → found ≡ true → low < end_of name fs
narrowed_present name fs low high found sorted n le on =
    let order = n.place.order in
    let both = n.present on in
    let lt = both.0 in
    elim (cases_lt low (end_of name fs)) [
      | inl before ↦ before
      | inr after ↦
          let inside : end_of name fs < length fs = omega (arith, after, order, le, lt) in
          absurd (both_ways _ (ascending_end name fs sorted (end_of name fs) high (omega (arith, after, order, le)) lt both.1)
          (passes_at_first (is_behind name) fs ([], []) inside))
    ]

-- a field of a name doesn't come after it
pub named-not_behind : (name : List ℕ) (f : Pair) → has_name name f ≡ true → is_behind name f ≡ false
named-not_behind name f h =
    let same : f.0 ≡ name = (bytes_eq-Decides f.0 name).0 h in
    rw same (irreflexive name)

-- behind the first field of a name, one of another name comes after it
pub other-behind : (name : List ℕ) (fs : List Pair) (k : ℕ) → is_sorted fs ≡ true → start_of name fs < k → k < length fs
    → has_name name (get_or fs k ([], [])) ≡ false → is_behind name (get_or fs k ([], [])) ≡ true
other-behind name fs k sorted past lt other =
    elim (cases_names (get_or fs k ([], [])).0 name) [
      | inl before ↦
          let fails : not_before name (get_or fs k ([], [])) ≡ false = rw before.lt refl in
          absurd (both_ways _ (ascending_start name fs sorted (start_of name fs) k (omega (arith, past)) lt fails)
          (passes_at_first (not_before name) fs ([], []) (omega (arith, past, lt))))
      | inr more ↦ elim more [ inl same ↦ absurd (both_ways _ other same.equal) | inr after ↦ after.gt ]
    ]

-- the first field that has the name
pub first-named : (name : List ℕ) (fs : List Pair) (i : ℕ) → i ≡ position_or_len (has_name name) fs → i < length fs →
    has_name name (get_or fs i ([], [])) ≡ true
first-named name fs i is lt = rw is (passes_at_first (has_name name) fs ([], []) (rw is at lt))

-- the fields of a name end behind it
pub before_end : (name : List ℕ) (fs : List Pair) (k : ℕ) → is_sorted fs ≡ true → k ≡ position_or_len (has_name name) fs → k < length fs → k < end_of name fs
before_end name fs k sorted is lt =
    let here = first-named name fs k is lt in
    elim (cases_lt k (end_of name fs)) [
      | inl before ↦ before
      | inr after ↦
          absurd (both_ways _ (ascending_end name fs sorted (end_of name fs) k after lt (named-not_behind name (get_or fs k ([], [])) here))
          (passes_at_first (is_behind name) fs ([], []) (omega (arith, after, lt))))
    ]

-- and it is the first that doesn't come before the name
pub first_is_start : (name : List ℕ) (fs : List Pair) (i : ℕ) → is_sorted fs ≡ true → i ≡ position_or_len (has_name name) fs → i < length fs →
    i ≡ start_of name fs
first_is_start name fs i sorted is lt =
    let same : (get_or fs i ([], [])).0 ≡ name = (bytes_eq-Decides (get_or fs i ([], [])).0 name).0 (first-named name fs i is lt) in
    sym (position_or_len_is (not_before name) fs i ([], []) (omega (arith, lt))
    (λ k below.
    let other : has_name name (get_or fs k ([], [])) ≡ false = fails_before_first (has_name name) fs k ([], []) (rw is at below) in
    elim (cases_names (get_or fs k ([], [])).0 name) [
      | inl before ↦ rw before.lt refl
      | inr more ↦
          elim more [
            | inl equal ↦ absurd (both_ways _ other equal.equal)
            | inr after ↦ absurd (both_ways _ (rw same at (sorted_at fs k i ([], []) sorted (omega (arith, below)) lt)) after.gt)
          ]
    ])
    (λ _. rw (same, irreflexive name) refl))

-- where no field is found to pass, none is kept
pub none-found : (test : Pair → Bool) (fs : List Pair) → position_or_len test fs ≡ length fs → filter test fs ≡ []
none-found test [] e = refl
none-found test (f ∷ fs) e =
    elim (cases_Bool (test f)) [
      | inl passes ↦ absurd (omega (arith, rw passes at e))
      | inr fails ↦ rw fails (none-found test fs (omega (arith, rw fails at e)))
    ]
