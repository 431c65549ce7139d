-- Small lemmas of tests, options and numbers, which many proofs use.
use Rattle.std.{proofs.{Common.{◌≡◌, ℕ, List, [], ◌∷◌, ◌++◌, Bool, true, false, Option, Some, None, refl, ap, arith}, lemmas.Bool.Decides.{nat_tests}}, specs.Prelude.{is_some, ◌||◌, nat_eq}}
use Rattle.hc_text.proofs.Basics.{not_some as none_some}
use Rattle.hc_effects.proofs.Vocabulary.{is_number}

-- TESTS

pub false_true : false ≡ true → ⊥
false_true h = cc

pub true_false : true ≡ false → ⊥
true_false h = cc

pub or_false : (a b : Bool) → (a || b) ≡ false → (a ≡ false) × (b ≡ false)
or_false false b h = (refl, h)
or_false true b h = absurd (true_false h)

-- OPTIONS

pub some_none : {A : Type 0} (a : A) → Some a ≡ None → ⊥
some_none a is = cc

pub some_row : {A : Type 0} (q : Option A) → is_some q ≡ true → (a : A) × (q ≡ Some a)
some_row None there = absurd (false_true there)
some_row (Some a) there = (a, refl)

pub number_is : (o : Option ℕ) (n : ℕ) → is_number o n ≡ true → o ≡ Some n
number_is None n h = absurd (false_true h)
number_is (Some m) n h = let same : m ≡ n = grind (arith, nat_tests) in ap Some same

pub number_yes : (o : Option ℕ) (n : ℕ) → o ≡ Some n → is_number o n ≡ true
number_yes None n is = absurd (none_some n is)
number_yes (Some m) n is = let same : m ≡ n = cc in let test : nat_eq m n ≡ true = grind (arith, nat_tests) in test

-- FUNCTIONS

-- functions that agree everywhere are one
pub same_functions : {A : Type 0} {B : Type 0} (f g : A → B) → ((a : A) → f a ≡ g a) → f ≡ g
same_functions f g same = λ i. λ a. same a i

-- LISTS AND NUMBERS

pub append_none : {A : Type 0} (xs : List A) → (xs ++ []) ≡ xs
append_none [] = refl
append_none (x ∷ xs) = ap (λ ys. x ∷ ys) (append_none xs)
