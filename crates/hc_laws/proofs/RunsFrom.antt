-- What is stored as runs: as many bytes as positions, up to the last one, ascending, each of a number that delivered.
--
-- All go by induction over positions: a byte begins a run, or makes the first one longer (`with_cell`). So bytes add up
-- (`bytes_from`), and the last run ends just behind the last byte (`end_most`, `end_past`, `end_is`). Each run stands
-- behind those before it (`laid_from`, `ascends`). A run of a number has a byte of that number (`of_cell`), so what
-- holds of such numbers holds of all runs (`all_of`).
use Rattle.std.{proofs.{Common.{◌≡◌, inl, inr, ℕ, zero, suc, ◌+◌, ◌<◌, ◌≤◌, List, [], ◌∷◌, length, Bool, true, false, cond, Option, Some, None, refl, ap, sym, ◌∙◌, arith, max}, lemmas.{Bool.Decides.{nat_tests}, List.Sums.{sum_by-cons}}}, specs.{Prelude.{is_some, nat_eq, nat_le, nat_lt, ◌==◌, ◌&&◌, ◌||◌, not, if◌then◌else◌}, List.{list_any, list_all}}}
use Rattle.hc_text.proofs.Basics.{bool_cases, or_right}
use Rattle.hc_sparse.specs.{Cells.{Cells, Cell, size_below}, Runs.{end_of}, declared.run.Run.{Run}}
use Rattle.hc_effects.proofs.Vocabulary.{ascend_from, run_from, with_cell, with_place, runs_from, last_end, bytes_in}
use Rattle.hc_effects.proofs.Basics.{false_true}

-- whether the first run goes on
abbrev goes_on : ℕ → Cell → Run → Bool
goes_on p cell run = run.at == p + 1 && run.x == cell.x

-- what a run that goes on says
record GoesOn (p : ℕ) (cell : Cell) (run : Run) : Type 0 where
  at : run.at ≡ p + 1
  from : run.x ≡ cell.x

on_is : (p : ℕ) (cell : Cell) (run : Run) → goes_on p cell run ≡ true → GoesOn p cell run
on_is p cell run h = record { at = grind (arith, nat_tests); from = grind (arith, nat_tests) }

-- HOW MANY BYTES

bytes_more : (run : Run) (runs : List Run) → bytes_in (run ∷ runs) ≡ length run.bytes + bytes_in runs
bytes_more run runs = sum_by-cons (λ (r : Run). length r.bytes) run runs

with_bytes : (p : ℕ) (cell : Cell) (runs : List Run) → bytes_in (with_cell p cell runs) ≡ 1 + bytes_in runs
with_bytes p cell [] = bytes_more (run_from p cell []) []
with_bytes p cell (run ∷ runs) = by_test (goes_on p cell run)
  where
    by_test : (b : Bool) → bytes_in (if b then run_from p cell run.bytes ∷ runs else run_from p cell [] ∷ run ∷ runs) ≡ 1 + bytes_in (run ∷ runs)
    by_test true = let a = bytes_more (run_from p cell run.bytes) runs in let b = bytes_more run runs in omega (arith, a, b)
    by_test false = bytes_more (run_from p cell []) (run ∷ runs)

next_below : (f : Cells) (p : ℕ) → size_below f (p + 1) ≡ cond (is_some (f p)) 1 0 + size_below f p
unfolding size_below
next_below f p = let same : p + 1 ≡ suc p = omega arith in rw same refl

pub bytes_from : (f : Cells) (p n : ℕ) → size_below f (p + n) ≡ size_below f p + bytes_in (runs_from f p n)
bytes_from f p zero = let same : p + zero ≡ p = omega arith in rw same (omega arith)
bytes_from f p (suc n) = ap (size_below f) (omega arith) ∙ (bytes_from f (p + 1) n ∙ by_cell (f p) (next_below f p))
  where
    by_cell : (z : Option Cell) → size_below f (p + 1) ≡ cond (is_some z) 1 0 + size_below f p → size_below f (p + 1) + bytes_in
        (runs_from f (p + 1) n) ≡ size_below f p + bytes_in (with_place p z (runs_from f (p + 1) n))
    by_cell None next = omega (arith, next)
    by_cell (Some cell) next = let more = with_bytes p cell (runs_from f (p + 1) n) in omega (arith, next, more)

-- WHERE THE LAST ONE ENDS

with_end : (p : ℕ) (cell : Cell) (runs : List Run) → last_end (with_cell p cell runs) ≡ max (p + 1) (last_end runs)
with_end p cell [] = omega arith
with_end p cell (run ∷ runs) = elim (bool_cases (goes_on p cell run)) [
  | inl on ↦
      let at : run.at ≡ p + 1 = (on_is p cell run on).at in
      let here : end_of (run_from p cell run.bytes) ≡ end_of run = omega (arith, at) in
      let past : p + 1 ≤ end_of run = omega (arith, at) in
      rw on (ap (λ k. max k (last_end runs)) here ∙ swallow (p + 1) (end_of run) (last_end runs) past)
  | inr off ↦ rw off refl
]
  where
    swallow : (a b c : ℕ) → a ≤ b → max b c ≡ max a (max b c)
    swallow a b c le = omega arith

-- no later than all positions
end_most : (f : Cells) (p n : ℕ) → last_end (runs_from f p n) ≤ p + n
end_most f p zero = omega arith
end_most f p (suc n) = by_cell (f p) (end_most f (p + 1) n)
  where
    by_cell : (z : Option Cell) → last_end (runs_from f (p + 1) n) ≤ (p + 1) + n → last_end (with_place p z (runs_from f (p + 1) n)) ≤ p + suc n
    by_cell None rest = omega arith
    by_cell (Some cell) rest = let is = with_end p cell (runs_from f (p + 1) n) in omega (arith, is)

-- and not before one that is there
end_past : (f : Cells) (p n q : ℕ) → p ≤ q → q < p + n → is_some (f q) ≡ true → q < last_end (runs_from f p n)
end_past f p zero q low high there = absurd (omega arith)
end_past f p (suc n) q low high there = by_cell (f p) refl (λ later. end_past f (p + 1) n q later (omega arith) there)
  where
    by_cell : (z : Option Cell) → f p ≡ z → (p + 1 ≤ q → q < last_end (runs_from f (p + 1) n)) → q < last_end (with_place p z (runs_from f (p + 1) n))
    by_cell None is again = elim (bool_cases (nat_le (p + 1) q)) [
      | inl later ↦ again (grind (arith, nat_tests))
      | inr first ↦ absurd (false_true (sym (ap is_some (ap f (let near : q < p + 1 = grind (arith, nat_tests) in omega arith) ∙ is)) ∙ there))
    ]
    by_cell (Some cell) is again = elim (bool_cases (nat_le (p + 1) q)) [
      | inl later ↦
          let more : q < last_end (runs_from f (p + 1) n) = again (grind (arith, nat_tests)) in
          let all = with_end p cell (runs_from f (p + 1) n) in omega (arith, all)
      | inr first ↦ let near : q < p + 1 = grind (arith, nat_tests) in let all = with_end p cell (runs_from f (p + 1) n) in omega (arith, all)
    ]

-- just where they end, where the last position is there
pub end_is : (f : Cells) (n : ℕ) → ((m : ℕ) → n ≡ m + 1 → is_some (f m) ≡ true) → last_end (runs_from f 0 n) ≡ n
end_is f zero tight = let most : last_end (runs_from f 0 zero) ≤ 0 + zero = end_most f 0 zero in omega arith
end_is f (suc m) tight =
    let most : last_end (runs_from f 0 (suc m)) ≤ 0 + suc m = end_most f 0 (suc m) in
    let past : m < last_end (runs_from f 0 (suc m)) = end_past f 0 (suc m) m (omega arith) (omega arith) (tight m (omega arith)) in
    omega arith

-- THEY RISE

-- from a position on, but for what stands before them
data Laid (p : ℕ) : List Run → Type 0 where
  none : Laid p []
  some : (run : Run) (runs : List Run) → p ≤ run.at → 0 < length run.bytes → ascend_from (end_of run) run.x runs ≡ true → Laid p (run ∷ runs)

laid_before : (p : ℕ) (runs : List Run) → Laid (p + 1) runs → Laid p runs
laid_before p _ none = none
laid_before p _ (some run runs low bytes rest) = some run runs (omega arith) bytes rest

with_laid : (p : ℕ) (cell : Cell) (runs : List Run) → Laid (p + 1) runs → Laid p (with_cell p cell runs)
with_laid p cell [] laid = some (run_from p cell []) [] (omega arith) (omega arith) refl
with_laid p cell (first ∷ later) (some run runs low bytes rest) = elim (bool_cases (goes_on p cell run)) [
  | inl on ↦
      let g = on_is p cell run on in
      let at : run.at ≡ p + 1 = g.at in
      let here : end_of run ≡ end_of (run_from p cell run.bytes) = omega (arith, at) in
      rw on (some (run_from p cell run.bytes) runs (omega arith) (omega arith) (rw (sym here, sym g.from) rest))
  | inr off ↦
      let low_test : nat_le (p + 1) run.at ≡ true = grind (arith, nat_tests) in
      let bytes_test : nat_lt 0 (length run.bytes) ≡ true = grind (arith, nat_tests) in
      rw off (some (run_from p cell []) (run ∷ runs) (omega arith) (omega arith) (rw (low_test, bytes_test, off, rest) refl))
]

laid_from : (f : Cells) (p n : ℕ) → Laid p (runs_from f p n)
laid_from f p zero = none
laid_from f p (suc n) = by_cell (f p) (laid_from f (p + 1) n)
  where
    by_cell : (z : Option Cell) → Laid (p + 1) (runs_from f (p + 1) n) → Laid p (with_place p z (runs_from f (p + 1) n))
    by_cell None rest = laid_before p (runs_from f (p + 1) n) rest
    by_cell (Some cell) rest = with_laid p cell (runs_from f (p + 1) n) rest

-- WHOSE THEY ARE

abbrev pub is_of : ℕ → Run → Bool
is_of x run = run.x == x

-- a position has a byte of x
pub record HasCell (f : Cells) (x : ℕ) : Type 0 where
  pub p : ℕ
  pub cell : Cell
  pub there : f p ≡ Some cell
  pub from : cell.x ≡ x

-- a run of x is the new one, or is there
with_of : (x p : ℕ) (cell : Cell) (runs : List Run) → list_any (is_of x) (with_cell p cell runs) ≡ true → ((cell.x == x) || list_any (is_of x) runs) ≡ true
with_of x p cell [] h = h
with_of x p cell (run ∷ runs) h = elim (bool_cases (goes_on p cell run)) [
  | inr off ↦ rw off at h
  | inl on ↦ by_or (cell.x == x) (run.x == x) (list_any (is_of x) runs) (rw on at h)
]
  where
    by_or : (a b c : Bool) → (a || c) ≡ true → (a || (b || c)) ≡ true
    by_or true b c h = refl
    by_or false true c h = refl
    by_or false false c h = h

pub of_cell : (f : Cells) (x p n : ℕ) → list_any (is_of x) (runs_from f p n) ≡ true → HasCell f x
of_cell f x p zero h = absurd (false_true h)
of_cell f x p (suc n) h = by_cell (f p) refl h (of_cell f x (p + 1) n)
  where
    by_cell : (z : Option Cell) → f p ≡ z → list_any (is_of x) (with_place p z (runs_from f (p + 1) n)) ≡ true →
        (list_any (is_of x) (runs_from f (p + 1) n) ≡ true → HasCell f x) → HasCell f x
    by_cell None is h again = again h
    by_cell (Some cell) is h again = elim (bool_cases (cell.x == x)) [
      | inl here ↦ let test : nat_eq cell.x x ≡ true = here in let same : cell.x ≡ x = grind (arith, nat_tests) in
          record { p = p; cell = cell; there = is; from = same }
      | inr off ↦ again (rw off at (with_of x p cell (runs_from f (p + 1) n) h))
    ]

-- what holds of each number holds of each run
pub all_of : (test : Run → Bool) (runs : List Run) → ((run : Run) → list_any (is_of run.x) runs ≡ true → test run ≡ true) → list_all test runs ≡ true
all_of test [] h = refl
all_of test (run ∷ runs) h =
    let self : nat_eq run.x run.x ≡ true = grind (arith, nat_tests) in
    let first : test run ≡ true = h run (rw self refl) in
    rw first (all_of test runs (λ other any. h other (or_right (is_of other.x run) (list_any (is_of other.x) runs) any)))

-- they rise from the first position on, where no number is 0
pub ascends : (f : Cells) (n : ℕ) → ((x : ℕ) → HasCell f x → 0 < x) → ascend_from 0 0 (runs_from f 0 n) ≡ true
ascends f n positive = by_laid (runs_from f 0 n) (laid_from f 0 n) (λ x any. positive x (of_cell f x 0 n any))
  where
    by_laid : (runs : List Run) → Laid 0 runs → ((x : ℕ) → list_any (is_of x) runs ≡ true → 0 < x) → ascend_from 0 0 runs ≡ true
    by_laid _ none h = refl
    by_laid _ (some run runs low bytes rest) h =
        let low_test : nat_le 0 run.at ≡ true = grind (arith, nat_tests) in
        let bytes_test : nat_lt 0 (length run.bytes) ≡ true = grind (arith, nat_tests) in
        let other : nat_eq run.x 0 ≡ false = grind (arith, nat_tests) in
        rw (low_test, bytes_test, other, rest) (by_and (run.at == 0))
      where
        by_and : (a : Bool) → (true && not (a && false) && true) ≡ true
        by_and true = refl
        by_and false = refl
