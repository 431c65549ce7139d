-- Lists that rise: with one more at the end, and one that falls the other way round.
use Rattle.std.{proofs.{Common.{◌≡◌, inl, inr, ℕ, ◌<◌, ◌≤◌, List, [], ◌∷◌, ◌++◌, Bool, true, false, eqb, refl, ap, sym, ◌∙◌, arith}, lemmas.{Bool.Decides.{nat_tests}, List.{reverse-append}}}, specs.Prelude.{reverse, nat_lt, ◌||◌}}
use Rattle.hc_text.proofs.{Basics.{bool_cases, eq_by, false_true, or_cases as in_either}, SortedLemmas.{has-above}}
use Rattle.hc_text.specs.Sorted.{is_among, itself, above, is_sorted}
use Rattle.hc_entry.proofs.SeatLemmas.{first_in}
use Rattle.hc_effects.proofs.Vocabulary.{Descends}

-- MEMBERS

pub among_later : (x n : ℕ) (xs : List ℕ) → is_among n xs ≡ true → is_among n (x ∷ xs) ≡ true
among_later x n xs there = grind (arith, nat_tests)

pub data IsHead (n x : ℕ) (xs : List ℕ) : Type 0 where
  is_first : x ≡ n → IsHead n x xs
  is_later : is_among n xs ≡ true → IsHead n x xs

pub among_cases : (n x : ℕ) (xs : List ℕ) → is_among n (x ∷ xs) ≡ true → IsHead n x xs
among_cases n x xs there = elim (in_either (eqb x n) (is_among n xs) there) [
  | inl here ↦ is_first (eq_by x n here)
  | inr later ↦ is_later later
]

pub among-append : (n : ℕ) (xs ys : List ℕ) → is_among n (xs ++ ys) ≡ (is_among n xs || is_among n ys)
among-append n [] ys = refl
among-append n (x ∷ xs) ys = ap (λ b. eqb x n || b) (among-append n xs ys) ∙ grind (arith, nat_tests)

-- whoever is among the rest is above the first
pub above_first : (n x : ℕ) (xs : List ℕ) → above itself x xs ≡ true → is_among n xs ≡ true → x < n
above_first n x xs up there = grind (arith, nat_tests, bool_cases, has-above, itself)

-- ONE MORE AT THE END

pub ascends_last : (x : ℕ) (xs : List ℕ) → is_sorted itself xs ≡ true → ((n : ℕ) → is_among n xs ≡ true → n < x) → is_sorted itself (xs ++ (x ∷ [])) ≡ true
ascends_last x [] up low = refl
ascends_last x (y ∷ ys) up low = above_last y ys up (low y (first_in y ys)) (λ n there. low n (among_later y n ys there))
  where
    above_last : (m : ℕ) (zs : List ℕ) → above itself m zs ≡ true → m < x → ((n : ℕ) → is_among n zs ≡ true → n < x) → above itself m (zs ++ (x ∷ [])) ≡ true
    above_last m [] high lt below = let test : nat_lt m x ≡ true = grind (arith, nat_tests, lt) in rw test refl
    above_last m (z ∷ zs) high lt below = elim (bool_cases (nat_lt m z)) [
      | inl on ↦ (let rest : above itself z zs ≡ true = rw on at high in
          rw on (above_last z zs rest (below z (first_in z zs)) (λ n there. below n (among_later z n zs there))))
      | inr off ↦ false_true (rw off at high)
    ]

-- THE OTHER WAY ROUND

pub among-reverse : (n : ℕ) (xs : List ℕ) → is_among n (reverse xs) ≡ is_among n xs
among-reverse n [] = refl
among-reverse n (x ∷ xs) =
    ap (is_among n) (reverse-append (x ∷ []) xs) ∙
    (among-append n (reverse xs) (x ∷ []) ∙ (ap (λ b. b || is_among n (x ∷ [])) (among-reverse n xs) ∙ grind (arith, nat_tests)))

pub among_below : (n m : ℕ) (xs : List ℕ) → Descends m xs → is_among n xs ≡ true → n < m
among_below n m [] down there = false_true there
among_below n m (x ∷ xs) down there = elim (among_cases n x xs there) [
  | is_first e ↦ (let lt : x < m = down.0 in omega (arith, e))
  | is_later later ↦ (let lt : x < m = down.0 in let low = among_below n x xs down.1 later in omega arith)
]

pub reverse_ascends : (m : ℕ) (xs : List ℕ) → Descends m xs → is_sorted itself (reverse xs) ≡ true
reverse_ascends m [] down = refl
reverse_ascends m (x ∷ xs) down =
    ap (is_sorted itself) (reverse-append (x ∷ []) xs) ∙
    ascends_last x (reverse xs) (reverse_ascends x xs down.1) (λ n there. among_below n x xs down.1 (sym (among-reverse n xs) ∙ there))
