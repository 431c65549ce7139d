-- A number that is put at its place in an ascending list.
--
-- The place is before the first greater one. A list ascends from a number on if its first element is no less than that,
-- and the rest ascends from behind it: so the order is kept by recursion, and std's order is that one. Who stands there
-- is the new number or stood there. Of those that pass a test, one more does at most.
use Rattle.std.{proofs.{Common.{◌≡◌, ◌≤◌, ◌<◌, ℕ, ◌+◌, List, [], ◌∷◌, Bool, true, false, refl, ap, sym, ◌∙◌, arith}, lemmas.Bool.Decides.{nat_tests}}, specs.{Prelude.{◌||◌, nat_eq, nat_lt, length, filter, if◌then◌else◌}, List.{AllByRecursion, Sorted.{IsStrictlySortedBy}}, Ordering.{nat_cmp}, Cmp.{nat_cmp_is}, declared.cmp.Ordering.TheVariants.{Less}}}
use Rattle.hc_text.proofs.Basics.{or_off_left as or_first, or_right as or_later, or_off_right as or_second, eq_itself as same_here}
use Rattle.hc_proxy.specs.Handling.{inserted}
use Rattle.hc_proxy.proofs.{Marked.{sorted_ascends}, SkippedSteps.{among, Ascends}}

-- THE ORDER

all_less : (m n : ℕ) (xs : List ℕ) → m < n → Ascends n xs → AllByRecursion (λ y. nat_cmp m y ≡ Less) xs
all_less m n [] lt up = tt
all_less m n (x ∷ xs) lt up =
    let le : n ≤ x = up.0 in
    (sym (nat_cmp_is m x Less (omega arith)), all_less m (x + 1) xs (omega arith) up.1)

pub ascends_sorted : (n : ℕ) (xs : List ℕ) → Ascends n xs → IsStrictlySortedBy nat_cmp xs
unfolding IsStrictlySortedBy
ascends_sorted n [] up = tt
ascends_sorted n (x ∷ xs) up = (all_less x (x + 1) xs (omega arith) up.1, ascends_sorted (x + 1) xs up.1)

inserted_up : (n k : ℕ) (xs : List ℕ) → n ≤ k → among k xs ≡ false → Ascends n xs → Ascends n (inserted k xs)
inserted_up n k [] le off up = (le, tt)
inserted_up n k (j ∷ js) le off up = by_test (nat_lt k j) refl (λ lt. inserted_up (j + 1) k js (omega arith) rest up.1)
  where
    apart : nat_eq k j ≡ false
    apart = or_first (nat_eq k j) (among k js) off

    rest : among k js ≡ false
    rest = or_second (nat_eq k j) (among k js) off

    by_test : (b : Bool) → nat_lt k j ≡ b → (j < k → Ascends (j + 1) (inserted k js)) → Ascends n (if b then k ∷ j ∷ js else j ∷ inserted k js)
    by_test true less more = (le, ((let lt : k < j = grind (arith, nat_tests) in omega arith), up.1))
    by_test false less more = (up.0, more (let o = apart in grind (arith, nat_tests)))

pub inserted_sorted : (k : ℕ) (xs : List ℕ) → among k xs ≡ false → IsStrictlySortedBy nat_cmp xs → IsStrictlySortedBy nat_cmp (inserted k xs)
inserted_sorted k xs off order = ascends_sorted 0 (inserted k xs) (inserted_up 0 k xs (omega arith) off (sorted_ascends xs order))

-- WHO STANDS THERE

pub inserted_here : (k : ℕ) (xs : List ℕ) → among k (inserted k xs) ≡ true
inserted_here k [] = rw (same_here k) refl
inserted_here k (j ∷ js) = by_test (nat_lt k j) (inserted_here k js)
  where
    by_test : (b : Bool) → among k (inserted k js) ≡ true → among k (if b then k ∷ j ∷ js else j ∷ inserted k js) ≡ true
    by_test true rest = rw (same_here k) refl
    by_test false rest = or_later (nat_eq k j) _ rest

pub inserted_on : (i k : ℕ) (xs : List ℕ) → among i xs ≡ true → among i (inserted k xs) ≡ true
inserted_on i k [] there = absurd (let never : false ≡ true = there in cc)
inserted_on i k (j ∷ js) there = by_test (nat_lt k j) (nat_eq i j) there (λ h. inserted_on i k js h)
  where
    by_test : (b a : Bool) → (a || among i js) ≡ true → (among i js ≡ true → among i (inserted k js) ≡ true) →
        among i (if b then k ∷ j ∷ js else j ∷ inserted k js) ≡ true
    by_test true a h rest = or_later (nat_eq i k) _ there
    by_test false a h rest = by_first (nat_eq i j) there rest
      where
        by_first : (d : Bool) → (d || among i js) ≡ true → (among i js ≡ true → among i (inserted k js) ≡ true) → (d || among i (inserted k js)) ≡ true
        by_first true g more = refl
        by_first false g more = more g

pub inserted_back : (i k : ℕ) (xs : List ℕ) → nat_eq i k ≡ false → among i (inserted k xs) ≡ true → among i xs ≡ true
inserted_back i k [] off there = absurd (let never : false ≡ true = rw off at there in cc)
inserted_back i k (j ∷ js) off there = by_test (nat_lt k j) there (λ h. inserted_back i k js off h)
  where
    by_first : (d : Bool) → (d || among i (inserted k js)) ≡ true → (among i (inserted k js) ≡ true → among i js ≡ true) → (d || among i js) ≡ true
    by_first true g more = refl
    by_first false g more = more g

    by_test : (b : Bool) → among i (if b then k ∷ j ∷ js else j ∷ inserted k js) ≡ true → (among i (inserted k js) ≡ true → among i js ≡ true) →
        (nat_eq i j || among i js) ≡ true
    by_test true h rest = rw off at h
    by_test false h rest = by_first (nat_eq i j) h rest

-- HOW MANY

one_more : (test : ℕ → Bool) (k : ℕ) (xs : List ℕ) → length (filter test (inserted k xs)) ≤ length (filter test xs) + 1
one_more test k [] = by_test (test k)
  where
    by_test : (b : Bool) → length (if b then k ∷ [] else []) ≤ length (filter test []) + 1
    by_test true = omega arith
    by_test false = omega arith
one_more test k (j ∷ js) = by_tests (nat_lt k j) (test k) (test j) (one_more test k js)
  where
    by_first : (b d : Bool) (ys : List ℕ) →
        length (if b then k ∷ (if d then j ∷ ys else ys) else (if d then j ∷ ys else ys)) ≤ length (if d then j ∷ ys else ys) + 1
    by_first true d ys = omega arith
    by_first false d ys = omega arith

    by_later : (d : Bool) (ys zs : List ℕ) → length zs ≤ length ys + 1 → length (if d then j ∷ zs else zs) ≤ length (if d then j ∷ ys else ys) + 1
    by_later true ys zs le = omega arith
    by_later false ys zs le = le

    by_tests : (less b d : Bool) → length (filter test (inserted k js)) ≤ length (filter test js) + 1 →
        length (filter test (if less then k ∷ j ∷ js else j ∷ inserted k js)) ≤ length (filter test (j ∷ js)) + 1
    by_tests true b d le = by_first (test k) (test j) (filter test js)
    by_tests false b d le = by_later (test j) (filter test js) (filter test (inserted k js)) le

same_others : (f h : ℕ → Bool) (k : ℕ) (xs : List ℕ) → among k xs ≡ false → ((j : ℕ) → nat_eq j k ≡ false → f j ≡ h j) → filter f xs ≡ filter h xs
same_others f h k [] off same = refl
same_others f h k (j ∷ js) off same =
    let apart : nat_eq k j ≡ false = or_first (nat_eq k j) (among k js) off in
    let other : nat_eq j k ≡ false = grind (arith, nat_tests) in
    let rest : filter f js ≡ filter h js = same_others f h k js (or_second (nat_eq k j) (among k js) off) same in
    ap (λ (b : Bool). if b then j ∷ filter f js else filter f js) (same j other)
    ∙ ap (λ (ys : List ℕ). if h j then j ∷ ys else ys) rest

-- of those that pass, one more at most, where the others pass as before
pub passed_more : (f h : ℕ → Bool) (k : ℕ) (xs : List ℕ) → among k xs ≡ false → ((j : ℕ) → nat_eq j k ≡ false → f j ≡ h j) →
    length (filter f (inserted k xs)) ≤ length (filter h xs) + 1
passed_more f h k xs off same =
    let le : length (filter f (inserted k xs)) ≤ length (filter f xs) + 1 = one_more f k xs in
    let is : length (filter f xs) ≡ length (filter h xs) = ap length (same_others f h k xs off same) in
    omega arith
