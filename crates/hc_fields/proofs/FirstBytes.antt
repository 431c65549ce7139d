-- The first of some byte in a text, as a search tells it.
use Rattle.std.{proofs.{Common.{◌≡◌, ℕ, ◌<◌, Bool, true, false, List, length, get_or, Option, Some, None, refl, inl, inr, arith}, lemmas.{Bool.{lt-ltb, le-ltb, cases_Bool}, List.Sums.{position_or_len_is}}}, specs.{Prelude.{◌==◌, position}, List.{position_or_len}}}
use Rattle.memchr.specs.Find.{IsFirstByte, is_byte}

not_at : (e b : ℕ) → ¬ ((b == e) ≡ true) → (b == e) ≡ false
not_at e b not = elim (cases_Bool (b == e)) [
  | inl is ↦ absurd (not is)
  | inr isn't ↦ isn't
]

-- a search that has passed a part of a text, and what it answers
pub position-none : (p : ℕ → Bool) (xs : List ℕ) → ((k : ℕ) → k < length xs → p (get_or xs k 0) ≡ false) → None ≡ position p xs
position-none p xs nowhere =
    let end : position_or_len p xs ≡ length xs = position_or_len_is p xs (length xs) 0 (omega arith) nowhere (λ lt. absurd (omega (arith, lt))) in
    rw (end, le-ltb (length xs) (length xs) (omega arith)) refl

pub position-some : (p : ℕ → Bool) (xs : List ℕ) (i : ℕ) → i < length xs → ((k : ℕ) → k < i → p (get_or xs k 0) ≡ false) → p (get_or xs i 0) ≡ true →
    Some i ≡ position p xs
position-some p xs i within before at =
    let place : position_or_len p xs ≡ i = position_or_len_is p xs i 0 (omega arith) before (λ lt. at) in
    rw (place, lt-ltb i (length xs) within) refl

pub first-position : (e : ℕ) (xs : List ℕ) (r : Option ℕ) → IsFirstByte (is_byte e) xs r → r ≡ position (λ b. b == e) xs
first-position e xs None nowhere =
    position-none (λ b. b == e) xs (λ k lt. not_at e _ (nowhere k (omega arith) lt))
first-position e xs (Some i) (before, at) =
    position-some (λ b. b == e) xs i before.high (λ k lt. not_at e _ (before.before k (omega arith) lt)) at
