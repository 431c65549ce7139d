-- A text that is cut at the first of some byte.
use Rattle.std.{proofs.{Common.{◌≡◌, ℕ, zero, suc, ◌+◌, ◌<◌, ◌≤◌, ◌^◌, Bool, true, false, List, [], ◌∷◌, ◌++◌, length, take, drop, get_or, Some, None, refl, sym, inl, inr, arith}, lemmas.{Bool.{cases_lt, and_parts, and_from, eqb-true, ne_eqb, both_ways, eq-eqb, lt-ltb, not_from_false, not_from_true, Decides.{nat_tests}}, Option.{none-some}, Fmt.{decimal_is_IsNumeral}, List.{take-append-drop, take_all, drop_more, Quantifiers.{position-Some}, Sums.{fails_before_first}}, Str.Parse.{digit_from_value}}}, specs.{Prelude.{◌==◌, position}, List.{position_or_len}, Fmt.{decimal}, Str.Parse.{AllDigits}}}
use Rattle.hc_text.specs.Texts.{lacks}

abbrev is : ℕ → ℕ → Bool
is e b = b == e

-- no byte before a place is this one
pub lacks-take : (e : ℕ) (xs : List ℕ) (i : ℕ) → i ≤ length xs → ((k : ℕ) → k < i → is e (get_or xs k 0) ≡ false) → lacks e (take i xs) ≡ true
lacks-take e xs zero le fails = refl
lacks-take e [] (suc i) le fails = absurd (omega arith)
lacks-take e (x ∷ xs) (suc i) le fails =
    and_from _ _ (not_from_false _ (fails 0 (omega arith))) (lacks-take e xs i (omega arith) (λ k lt. fails (suc k) (omega arith)))

pub lacks-all : (e : ℕ) (xs : List ℕ) → position (is e) xs ≡ None → lacks e xs ≡ true
lacks-all e xs none =
    elim (cases_lt (position_or_len (is e) xs) (length xs)) [
      | inl within ↦ absurd (none-some _ (sym (rw (lt-ltb (position_or_len (is e) xs) (length xs) within) at none)))
      | inr past ↦
          rw (take_all (length xs) xs (omega arith)) at (lacks-take e xs (length xs) (omega arith) (λ k lt. fails_before_first (is e) xs k 0 (omega arith)))
    ]

pub record Cut (e : ℕ) (xs : List ℕ) (i : ℕ) : Type 0 where
  pub within : i < length xs
  pub before : lacks e (take i xs) ≡ true
  pub whole : take i xs ++ e ∷ drop (i + 1) xs ≡ xs

pub cut-position : (e : ℕ) (xs : List ℕ) (i : ℕ) → position (is e) xs ≡ Some i → Cut e xs i
cut-position e xs i some =
    let at = position-Some (is e) xs i 0 some in
    record {
      within = at.0;
      before = lacks-take e xs i (omega (arith, at.0)) at.2;
      whole = rw (← eqb-true _ _ at.1) (rw (← drop_more xs i 0 at.0) (take-append-drop i xs));
    }

-- a byte that stands in a text is not lacking
pub lacks-not : (e : ℕ) (us vs : List ℕ) → lacks e (us ++ e ∷ vs) ≡ true → ⊥
lacks-not e [] vs h = both_ways _ (not_from_true _ (eq-eqb e e refl)) (and_parts _ _ h).0
lacks-not e (u ∷ us) vs h = lacks-not e us vs (and_parts _ _ h).1

-- there is one way to cut a text at the first of a byte
pub cut_once : (e : ℕ) (xs ys us vs : List ℕ) → lacks e xs ≡ true → lacks e us ≡ true → xs ++ e ∷ ys ≡ us ++ e ∷ vs → (xs ≡ us) × (ys ≡ vs)
cut_once e [] ys [] vs hx hu same = (refl, cc)
cut_once e [] ys (u ∷ us) vs hx hu same = grind (arith, nat_tests)
cut_once e (x ∷ xs) ys [] vs hx hu same =
    let first : x ≡ e = cc in absurd (both_ways _ (not_from_true _ (eq-eqb x e first)) (and_parts _ _ hx).0)
cut_once e (x ∷ xs) ys (u ∷ us) vs hx hu same =
    let first : x ≡ u = cc in
    let rest : xs ++ e ∷ ys ≡ us ++ e ∷ vs = cc in
    let more = cut_once e xs ys us vs (and_parts _ _ hx).1 (and_parts _ _ hu).1 rest in
    (rw (first, more.0) refl, more.1)

lacks-digits : (e : ℕ) → e < 48 → (ds : List ℕ) → AllDigits 10 ds → lacks e ds ≡ true
lacks-digits e below [] h = refl
lacks-digits e below (d ∷ ds) h =
    let range = digit_from_value d h.0 in
    and_from _ _ (not_from_false _ (ne_eqb d e (λ same. omega (arith, same, range.0)))) (lacks-digits e below ds h.1)

-- no digit is below '0'
pub lacks-decimal : (e n : ℕ) → e < 48 → n < 2 ^ 62 → lacks e (decimal n) ≡ true
lacks-decimal e n below small = lacks-digits e below (decimal n) (decimal_is_IsNumeral n (omega arith)).0.1
