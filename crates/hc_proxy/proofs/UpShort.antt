-- Of two lists that ascend, one that stands in the other is no longer.
use Rattle.std.{proofs.{Common.{◌≡◌, ◌≤◌, ◌<◌, ℕ, ◌+◌, List, [], ◌∷◌, ◌++◌, length, Bool, true, false, refl, sym, ◌∙◌, arith}, lemmas.Bool.Decides.{nat_tests}}, specs.Prelude.{nat_eq, nat_lt, filter, if◌then◌else◌}}
use Rattle.hc_text.proofs.Basics.{or_right as either_right, true_false}
use Rattle.hc_proxy.proofs.SkippedSteps.{among, Ascends, weaken, not_below}

abbrev Within : List ℕ → List ℕ → Type 0
Within xs ys = (x : ℕ) → among x xs ≡ true → among x ys ≡ true

among_first : (x : ℕ) (xs : List ℕ) → among x (x ∷ xs) ≡ true
among_first x xs = let one : nat_eq x x ≡ true = grind (arith, nat_tests) in rw one refl

-- behind the first of the other list
among_rest : (x y : ℕ) (ys : List ℕ) → nat_eq x y ≡ false → among x (y ∷ ys) ≡ true → among x ys ≡ true
among_rest x y ys off there = sym (rw off refl) ∙ there

abbrev NoLonger : List ℕ → List ℕ → Type 0
NoLonger xs ys = (n m : ℕ) → Ascends n xs → Ascends m ys → Within xs ys → length xs ≤ length ys

-- each stands from n on
from_on : (n x : ℕ) (xs : List ℕ) → Ascends n xs → among x xs ≡ true → n ≤ x
from_on n x xs up there = by_test (nat_lt x n) refl
  where
    by_test : (b : Bool) → nat_lt x n ≡ b → n ≤ x
    by_test false is = grind (arith, nat_tests)
    by_test true is = let lt : x < n = grind (arith, nat_tests) in true_false (sym there ∙ not_below n xs up x (omega arith))

up_more : (y : ℕ) (ys : List ℕ) → ((xs : List ℕ) → NoLonger xs ys) → (xs : List ℕ) → NoLonger xs (y ∷ ys)
up_more y ys rest [] n m up_x up_y within = omega arith
up_more y ys rest (x ∷ xs) n m up_x up_y within = by_test (nat_eq x y) refl
  where
    others : (w : ℕ) → x + 1 ≤ w → y ≤ x → nat_eq w y ≡ false
    others w le same = grind (arith, nat_tests)

    by_order : nat_eq x y ≡ false → (b : Bool) → nat_lt y x ≡ b → length (x ∷ xs) ≤ length (y ∷ ys)
    by_order off false is =
        let lt : x + 1 ≤ y = grind (arith, nat_tests) in
        true_false (sym (within x (among_first x xs)) ∙ not_below y (y ∷ ys) (omega arith, up_y.1) x lt)
    by_order off true is =
        let lt : y < x = grind (arith, nat_tests) in
        let less : length (x ∷ xs) ≤ length ys = rest (x ∷ xs) x (y + 1) (omega arith, up_x.1) up_y.1
        (λ w there. among_rest w y ys (let le : x ≤ w = from_on x w (x ∷ xs) (omega arith, up_x.1) there in grind (arith, nat_tests)) (within w there)) in
        omega arith

    by_test : (b : Bool) → nat_eq x y ≡ b → length (x ∷ xs) ≤ length (y ∷ ys)
    by_test false off = by_order off (nat_lt y x) refl
    by_test true is =
        let same : x ≡ y = grind (arith, nat_tests) in
        let less : length xs ≤ length ys = rest xs (x + 1) (y + 1) up_x.1 up_y.1
        (λ w there. among_rest w y ys (others w (from_on (x + 1) w xs up_x.1 there) (omega arith)) (within w (either_right (nat_eq w x) (among w xs) there))) in
        omega arith

pub up_short : (ys xs : List ℕ) → NoLonger xs ys
up_short [] [] = λ n m up_x up_y within. omega arith
up_short [] (x ∷ xs) = λ n m up_x up_y within. true_false (sym (within x (among_first x xs)))
up_short (y ∷ ys) xs = up_more y ys (λ zs. up_short ys zs) xs

-- A PART OF SUCH A LIST

pub filter_up : (test : ℕ → Bool) (n : ℕ) (xs : List ℕ) → Ascends n xs → Ascends n (filter test xs)
filter_up test n [] up = tt
filter_up test n (x ∷ xs) up = by_test (test x) (filter_up test (x + 1) xs up.1)
  where
    by_test : (b : Bool) → Ascends (x + 1) (filter test xs) → Ascends n (if b then x ∷ filter test xs else filter test xs)
    by_test true rest = (up.0, rest)
    by_test false rest = weaken n (x + 1) (filter test xs) (let le : n ≤ x = up.0 in omega arith) rest

-- HOW MANY PASS

pub filter_both : (test : ℕ → Bool) (xs ys : List ℕ) → length (filter test (xs ++ ys)) ≡ length (filter test xs) + length (filter test ys)
filter_both test [] ys = omega arith
filter_both test (x ∷ xs) ys = by_test (test x) (filter_both test xs ys)
  where
    by_test : (b : Bool) → length (filter test (xs ++ ys)) ≡ length (filter test xs) + length (filter test ys) →
        length (if b then x ∷ filter test (xs ++ ys) else filter test (xs ++ ys)) ≡ length (if b then x ∷ filter test xs else filter test xs) + length
        (filter test ys)
    by_test true rest = omega arith
    by_test false rest = rest

pub passes_one : (test : ℕ → Bool) (x : ℕ) (xs : List ℕ) → test x ≡ true → length (filter test (x ∷ xs)) ≡ length (filter test xs) + 1
passes_one test x xs on = rw on (omega arith)
