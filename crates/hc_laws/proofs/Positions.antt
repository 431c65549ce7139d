-- At how many positions below a place something is.
--
-- All go by induction over positions. Past the end of what is there none is counted (`below_past`). Bytes that are
-- written where nothing is add as many as they are (`below-written`, `below_put`); so runs that rise count as many
-- positions as they have bytes (`bytes_below`). No more are counted than there are (`below-le`). All are exactly
-- where each is there (`full_below`, `below_full`), and then no other is (`no_other_below`).
use Rattle.std.{proofs.{Common.{◌≡◌, inl, inr, ℕ, zero, suc, ◌+◌, ◌-◌, ◌<◌, ◌≤◌, List, [], ◌∷◌, length, true, false, cond, None, refl, ap, sym, ◌∙◌, arith, max}, lemmas.{Bool.Decides.{nat_tests}, List.Sums.{sum_by-cons}}}, specs.Prelude.{is_some, nat_le, nat_lt}}
use Rattle.hc_text.proofs.Basics.{and_left, and_right, bool_cases}
use Rattle.hc_sparse.specs.{Cells.{Cells, Covers, EndsBy, AreAbsent, cells_with, size_below}, Runs.{cells_of, end_of}, declared.run.Run.{Run}}
use Rattle.hc_sparse.proofs.{CellLemmas.{inside-before}, SizeLemmas.{below-le, below-written}}
use Rattle.hc_effects.proofs.Vocabulary.{ascend_from, last_end, bytes_in}
use Rattle.hc_laws.proofs.Begins.{ends_all}

pub below_none : (f : Cells) (n : ℕ) → EndsBy 0 f → size_below f n ≡ 0
unfolding size_below
below_none f zero ends = refl
below_none f (suc n) ends = rw (ends n (omega arith), below_none f n ends) refl

-- past where it ends nothing is
pub below_past : (f : Cells) (n m : ℕ) → EndsBy n f → n ≤ m → size_below f m ≡ size_below f n
unfolding size_below
below_past f n zero ends le = let same : n ≡ zero = omega arith in rw same refl
below_past f n (suc m) ends le = elim (bool_cases (nat_le n m)) [
  | inl under ↦ let low : n ≤ m = grind (arith, nat_tests) in let rest : size_below f m ≡ size_below f n = below_past f n m ends low in
      rw (ends m low) (omega arith)
  | inr over ↦ let same : n ≡ suc m = (let past : m < n = grind (arith, nat_tests) in omega arith) in rw same refl
]

-- written where nothing was, up to the farther of both ends
pub below_put : (f : Cells) (from x n : ℕ) (bytes : List ℕ) → EndsBy n f → AreAbsent f from (from + length bytes) →
    size_below (cells_with from x bytes f) (max n (from + length bytes)) ≡ size_below f n + length bytes
below_put f from x n bytes ends absent = grind (arith, nat_tests, below-written, length, below_past)

-- RUNS THAT RISE

pub before_run : (n x p : ℕ) (runs : List Run) → ascend_from n x runs ≡ true → p < n → cells_of runs p ≡ None
before_run n x p [] good lt = refl
before_run n x p (run ∷ runs) good lt =
    let test : nat_le n run.at ≡ true = and_left _ _ (and_left _ _ (and_left _ _ good)) in
    let low : n ≤ run.at = grind (arith, nat_tests) in
    let under : p < run.at = omega arith in
    rw (inside-before run.at (length run.bytes) p under) (before_run (end_of run) run.x p runs (and_right _ _ good) (omega arith))

-- as many positions as bytes
pub bytes_below : (n x : ℕ) (runs : List Run) → ascend_from n x runs ≡ true → bytes_in runs ≡ size_below (cells_of runs) (last_end runs)
bytes_below n x [] good = sym (below_none (cells_of []) 0 (λ p le. refl))
bytes_below n x (run ∷ runs) good =
    let later : ascend_from (end_of run) run.x runs ≡ true = and_right _ _ good in
    let rest : bytes_in runs ≡ size_below (cells_of runs) (last_end runs) = bytes_below (end_of run) run.x runs later in
    let sum : bytes_in (run ∷ runs) ≡ length run.bytes + bytes_in runs = sum_by-cons (λ (r : Run). length r.bytes) run runs in
    let put = below_put (cells_of runs) run.at run.x (last_end runs) run.bytes (ends_all runs) (λ p lo hi. before_run (end_of run) run.x p runs later hi) in
    sum ∙ (turned (length run.bytes) (bytes_in runs) ∙
    (ap (λ k. k + length run.bytes) rest ∙ (sym put ∙ ap (size_below (cells_of (run ∷ runs))) (omega arith))))
  where
    turned : (a b : ℕ) → a + b ≡ b + a
    turned a b = omega arith

-- AS MANY AS THERE MAY BE

-- where each is there, all count
pub full_below : (f : Cells) (n : ℕ) → Covers f 0 n → size_below f n ≡ n
unfolding size_below
full_below f zero all = refl
full_below f (suc n) all =
    let here : is_some (f n) ≡ true = all n (omega arith) (omega arith) in
    let rest : size_below f n ≡ n = full_below f n (λ p lo hi. all p lo (omega arith)) in
    rw here (omega arith)

-- and where all count, each is there
pub below_full : (f : Cells) (n : ℕ) → size_below f n ≡ n → Covers f 0 n
unfolding size_below
below_full f zero all p lo hi = absurd (omega arith)
below_full f (suc n) all p lo hi = elim (bool_cases (is_some (f n))) [
  | inl here ↦
      elim (bool_cases (nat_lt p n)) [
        | inl before ↦ below_full f n (let is : 1 + size_below f n ≡ suc n = rw here at all in omega arith) p lo (grind (arith, nat_tests))
        | inr past ↦ let same : p ≡ n = (let over : n ≤ p = grind (arith, nat_tests) in omega arith) in rw same here
      ]
  | inr off ↦
      let most : size_below f n ≤ n = below-le f n in
      let is : 0 + size_below f n ≡ suc n = rw off at all in
      absurd (omega arith)
]

pub below_more : (f : Cells) (a b : ℕ) → a ≤ b → size_below f a ≤ size_below f b
unfolding size_below
below_more f a zero le = let none : a ≡ zero = omega arith in rw none (omega arith)
below_more f a (suc b) le = elim (bool_cases (nat_le a b)) [
  | inl less ↦ let under : a ≤ b = grind (arith, nat_tests) in
      let rest : size_below f a ≤ size_below f b = below_more f a b under in
      elim (is_some (f b)) as (λ z. size_below f a ≤ cond z 1 0 + size_below f b) [ true ↦ omega arith | false ↦ omega arith ]
  | inr more ↦ let same : a ≡ suc b = (let over : b < a = grind (arith, nat_tests) in omega arith) in rw same (omega arith)
]

-- where as many count as the first positions, no other is there
pub no_other_below : (f : Cells) (n p m : ℕ) → Covers f 0 n → size_below f m ≡ n → n ≤ p → p < m → is_some (f p) ≡ true → ⊥
unfolding size_below
no_other_below f n p m all count le lt there =
    let first : size_below f n ≡ n = full_below f n all in
    let upto : size_below f n ≤ size_below f p = below_more f n p le in
    let next : size_below f (suc p) ≤ size_below f m = below_more f (suc p) m (omega arith) in
    grind (arith, nat_tests)
