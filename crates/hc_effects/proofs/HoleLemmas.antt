-- Holes are absent, and what has none is covered.
--
-- The first of some positions that passes a test is found within these, or behind them (`first_to`). None before it
-- passes (`first_before`), and it passes where it is within (`first_passes`). So what covers an interval has something
-- everywhere, and the other way round (`covers_all`, `covers_yes`). A hole ends at the next such place (`end_cases`):
-- so it is absent (`hole_absent`), and not empty (`hole_some`).
use Rattle.std.{proofs.{Common.{◌≡◌, ◌⊎◌, inl, inr, ℕ, zero, suc, ◌+◌, ◌-◌, ◌<◌, ◌≤◌, Bool, true, false, Option, None, sym, arith, min}, lemmas.Bool.Decides.{nat_tests}}, specs.Prelude.{is_some, is_none}}
use Rattle.hc_text.proofs.Basics.{bool_cases, lt_cases}
use Rattle.hc_sparse.specs.Cells.{Cells, Cell, EndsBy, Covers}
use Rattle.hc_sparse.proofs.OpLemmas.{absent-is}
use Rattle.hc_effects.proofs.Vocabulary.{first_place, absent_from, covers, hole_at}

pub some_of : (o : Option Cell) → is_none o ≡ false → is_some o ≡ true
some_of o h = grind (arith, nat_tests)

pub not_none : (o : Option Cell) → is_none o ≡ true → o ≡ None
not_none o h = grind (arith, nat_tests)

next_or : (p q : ℕ) → p ≤ q → (p ≡ q) ⊎ (p + 1 ≤ q)
next_or p q le = grind (arith, nat_tests)

module _ (test : Option Cell → Bool) (f : Cells) where
  -- the place that is found is within the n positions, or behind them
  pub first_from : (p n : ℕ) → p ≤ first_place test f p n
  first_from p zero = omega arith
  first_from p (suc n) = elim (bool_cases (test (f p))) [
    | inl passes ↦ rw passes (omega arith)
    | inr fails ↦ rw fails (let more = first_from (p + 1) n in omega arith)
  ]

  pub first_to : (p n : ℕ) → first_place test f p n ≤ p + n
  first_to p zero = omega arith
  first_to p (suc n) = elim (bool_cases (test (f p))) [
    | inl passes ↦ rw passes (omega arith)
    | inr fails ↦ rw fails (let less = first_to (p + 1) n in omega arith)
  ]

  -- none before it passes
  pub first_before : (p n q : ℕ) → p ≤ q → q < first_place test f p n → test (f q) ≡ false
  first_before p zero q le lt = absurd (omega arith)
  first_before p (suc n) q le lt = elim (bool_cases (test (f p))) [
    | inl passes ↦ absurd (let less = rw passes at lt in omega arith)
    | inr fails ↦ elim (next_or p q le) [
      | inl same ↦ rw (sym same) fails
      | inr more ↦ first_before (p + 1) n q more (rw fails at lt)
    ]
  ]

  -- it passes, where it isn't behind them
  pub first_passes : (p n : ℕ) → first_place test f p n < p + n → test (f (first_place test f p n)) ≡ true
  first_passes p zero lt = absurd (omega arith)
  first_passes p (suc n) lt = elim (bool_cases (test (f p))) [
    | inl passes ↦ rw passes passes
    | inr fails ↦ rw fails (first_passes (p + 1) n (let less = rw fails at lt in omega arith))
  ]

-- where it covers, each position has something
pub covers_all : (f : Cells) (reach lo hi : ℕ) → covers f reach lo hi ≡ true → Covers f lo hi
covers_all f reach lo hi h p le lt =
    let far : hi ≤ absent_from f reach lo hi = grind (arith, nat_tests) in
    some_of (f p) (first_before is_none f lo (min hi reach - lo) p le (omega arith))

-- and where each position has something, it covers
pub covers_yes : (f : Cells) (reach lo hi : ℕ) → EndsBy reach f → Covers f lo hi → covers f reach lo hi ≡ true
covers_yes f reach lo hi ends all = grind (arith, nat_tests, far)
  where
    within : lo < hi → hi ≤ reach
    within lt = elim (lt_cases (hi - 1) reach) [
      | inl less ↦ omega arith
      | inr past ↦ absurd (let none : f (hi - 1) ≡ None = ends (hi - 1) past.1 in let there : is_some (f (hi - 1)) ≡ true =
          all (hi - 1) (omega arith) (omega arith) in let never : false ≡ true = rw none at there in cc)
    ]

    none_there : (q : ℕ) → lo ≤ q → q < hi → is_none (f q) ≡ true → ⊥
    none_there q le lt none = let there : is_some (f q) ≡ true = all q le lt in let never : false ≡ true = rw (not_none (f q) none) at there in cc

    far : hi ≤ absent_from f reach lo hi
    far = elim (lt_cases lo hi) [
      | inr empty ↦ let start = first_from is_none f lo (min hi reach - lo) in omega arith
      | inl some ↦
          let whole : hi ≤ reach = within some.1 in
          elim (lt_cases (first_place is_none f lo (min hi reach - lo)) (lo + (min hi reach - lo))) [
            | inr behind ↦ omega arith
            | inl before ↦
                let passes = first_passes is_none f lo (min hi reach - lo) before.1 in
                let start = first_from is_none f lo (min hi reach - lo) in
                absurd (none_there (first_place is_none f lo (min hi reach - lo)) start (omega arith) passes)
          ]
    ]

-- the end of a hole: the next place where something is, or the end of the span
end_cases : (f : Cells) (reach p hi : ℕ) →
    let next = first_place is_some f p (reach - p) in
    (((hole_at f reach p hi).hi ≡ min hi next) × (next < reach)) ⊎ (((hole_at f reach p hi).hi ≡ hi) × (reach ≤ next))
end_cases f reach p hi = grind (arith, nat_tests)

-- each position of a hole is absent
pub hole_absent : (f : Cells) (reach p hi q : ℕ) → EndsBy reach f → p ≤ q → q < (hole_at f reach p hi).hi → f q ≡ None
hole_absent f reach p hi q ends le lt =
    elim (end_cases f reach p hi) [
      | inl near ↦
          let less : q < min hi (first_place is_some f p (reach - p)) = rw near.0 at lt in
          absent-is (f q) (first_before is_some f p (reach - p) q le (omega arith))
      | inr far ↦
          elim (lt_cases q reach) [
            | inr past ↦ ends q past.1
            | inl within ↦ absent-is (f q) (first_before is_some f p (reach - p) q le (omega arith))
          ]
    ]

-- an absent position isn't the next one where something is
apart : (f : Cells) (p n : ℕ) → f p ≡ None → first_place is_some f p n ≡ p → 0 < n → ⊥
apart f p n none same some =
    let passes : is_some (f (first_place is_some f p n)) ≡ true = first_passes is_some f p n (omega arith) in
    let here : is_some (f p) ≡ true = rw same at passes in
    let never : false ≡ true = rw none at here in cc

-- and the hole isn't empty, where it begins below the end
pub hole_some : (f : Cells) (reach p hi : ℕ) → f p ≡ None → p < hi → p < (hole_at f reach p hi).hi
hole_some f reach p hi none lt =
    elim (end_cases f reach p hi) [
      | inr far ↦ rw far.0 lt
      | inl near ↦ rw near.0 (elim (next_or p (first_place is_some f p (reach - p)) (first_from is_some f p (reach - p))) [
        | inr more ↦ omega arith
        | inl same ↦ absurd (apart f p (reach - p) none (sym same) (let within : p < reach = omega arith in omega arith))
      ])
    ]
