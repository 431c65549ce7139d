-- Where the first byte of a kind stands, if one does.
use Rattle.std.{proofs.{Common.{◌≡◌, ℕ, ◌-◌, ◌≤◌, Bool, true, false, List, [], ◌∷◌, length, Some, None, refl, sym, inl, inr, arith}, lemmas.{Bool.{cases_Bool, cases_lt, lt-ltb, le-ltb}, Option.{same_Some}, List.{Folds.{list_any_at}, Sums.{passes_at_first}}}}, specs.List.{position, position_or_len, list_any}}

module _ (p : ℕ → Bool) where
  none : (xs : List ℕ) → length xs ≤ position_or_len p xs → list_any p xs ≡ false
  none [] le = refl
  none (x ∷ xs) le = elim (cases_Bool (p x)) [
    | inl passes ↦ let le = rw passes at le in absurd (omega arith)
    | inr fails ↦ let le = rw fails at le in rw fails (none xs (omega arith))
  ]

  pub stands_nowhere : (xs : List ℕ) → position p xs ≡ None → list_any p xs ≡ false
  stands_nowhere xs is = elim (cases_lt (position_or_len p xs) (length xs)) [
    | inl lt ↦ let is = rw (lt-ltb (position_or_len p xs) (length xs) lt) at is in absurd cc
    | inr le ↦ none xs le
  ]

  pub stands : (xs : List ℕ) (i : ℕ) → position p xs ≡ Some i → (list_any p xs ≡ true) × (i ≡ position_or_len p xs)
  stands xs i is = elim (cases_lt (position_or_len p xs) (length xs)) [
    | inl lt ↦
        let is = rw (lt-ltb (position_or_len p xs) (length xs) lt) at is in
        (list_any_at p xs (position_or_len p xs) 0 lt (passes_at_first p xs 0 lt), sym (same_Some _ _ is))
    | inr le ↦ let is = rw (le-ltb (position_or_len p xs) (length xs) le) at is in absurd cc
  ]
