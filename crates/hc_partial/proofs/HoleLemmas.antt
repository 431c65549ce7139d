-- Where a stretch of stored positions ends, and where a hole does.
use Rattle.std.{proofs.{Common.{◌≡◌, ◌≢◌, ℕ, zero, suc, ◌+◌, ◌-◌, ◌<◌, ◌≤◌, Bool, true, false, leb, Option, Some, None, refl, sym, ap, ◌∙◌, inl, inr, arith}, lemmas.Bool.{cases_Bool, cases_lt, le-leb, lt-leb}}, specs.Prelude.{is_some, is_none, min}}
use Rattle.hc_range.specs.declared.range.Span.{Span}
use Rattle.hc_sparse.specs.Cells.{Cell, Cells, Covers, AreAbsent, IsNext}
use Rattle.hc_partial.specs.Holes.{first_place, absent_from, present_from, first_hole}

first_place_is : (test : Option Cell → Bool) (f : Cells) (n p q : ℕ) → p ≤ q → q ≤ p + n → ((k : ℕ) → p ≤ k → k < q → test (f k) ≡ false)
    → (q < p + n → test (f q) ≡ true) → first_place test f p n ≡ q
first_place_is test f zero p q le within before at = omega arith
first_place_is test f (suc n) p q le within before at = elim (cases_lt p q) [
  | inl further ↦ rw (before p (omega arith) further)
      (first_place_is test f n (p + 1) q (omega arith) (omega arith) (λ k low high. before k (omega arith) high) (λ lt. at (omega arith)))
  | inr here ↦
      let same : q ≡ p = omega arith in
      let passes : test (f p) ≡ true = ap (λ (k : ℕ). test (f k)) (sym same) ∙ at (omega arith) in
      rw passes (sym same)
]

pub present-none : (o : Option Cell) → is_some o ≡ true → is_none o ≡ false
present-none None h = absurd (cc)
present-none (Some c) h = refl

absent-none : (o : Option Cell) → (is_some o ≡ true → ⊥) → is_none o ≡ true
absent-none None h = refl
absent-none (Some c) h = absurd (h refl)

none-some : (o : Option Cell) → o ≡ None → is_some o ≡ false
none-some o is = rw is refl

-- what is stored up to a position, or up to the end
pub absent_from_is : (f : Cells) (lo hi q : ℕ) → lo ≤ q → q ≤ hi → Covers f lo q → (q < hi → is_some (f q) ≡ true → ⊥) → q ≡ absent_from f lo hi
unfolding absent_from
absent_from_is f lo hi q le within covers at =
    sym (first_place_is is_none f (hi - lo) lo q le (omega arith) (λ k low high. present-none (f k) (covers k low high))
    (λ lt. absent-none (f q) (at (omega arith))))

pub present_from_is : (f : Cells) (lo hi q : ℕ) → lo ≤ q → q ≤ hi → AreAbsent f lo q → (q < hi → is_some (f q) ≡ true) → q ≡ present_from f lo hi
unfolding present_from
present_from_is f lo hi q le within absent at =
    sym (first_place_is is_some f (hi - lo) lo q le (omega arith) (λ k low high. none-some (f k) (absent k low high)) (λ lt. at (omega arith)))

pub present_from-next : (f : Cells) (lo hi n : ℕ) → lo ≤ hi → IsNext f lo (Some n) → min n hi ≡ present_from f lo hi
present_from-next f lo hi n le next = elim (cases_lt n hi) [
  | inl inside ↦
      let least : min n hi ≡ n = omega arith in
      rw least (present_from_is f lo hi n next.0 (omega arith) next.2 (λ lt. next.1))
  | inr past ↦
      let least : min n hi ≡ hi = omega arith in
      rw least (present_from_is f lo hi hi le (omega arith) (λ k low high. next.2 k low (omega arith)) (λ lt. absurd (omega arith)))
]

pub present_from-none : (f : Cells) (lo hi : ℕ) → lo ≤ hi → IsNext f lo None → hi ≡ present_from f lo hi
present_from-none f lo hi le next = present_from_is f lo hi hi le (omega arith) (λ k low high. next k low) (λ lt. absurd (omega arith))

-- one position that isn't stored
pub not_covered : (f : Cells) (lo hi : ℕ) → hi ≡ lo + 1 → (Covers f lo hi → ⊥) → is_some (f lo) ≡ true → ⊥
not_covered f lo hi next off there = off (λ k low high. let same : lo ≡ k = omega arith in ap (λ (j : ℕ). is_some (f j)) (sym same) ∙ there)

-- the place where a stretch ends is in the interval
first_place-low : (test : Option Cell → Bool) (f : Cells) (n p : ℕ) → (p ≤ first_place test f p n) × (first_place test f p n ≤ p + n)
first_place-low test f zero p = (omega arith, omega arith)
first_place-low test f (suc n) p = elim (cases_Bool (test (f p))) [
  | inl here ↦ rw here (omega arith, omega arith)
  | inr off ↦ let h = first_place-low test f n (p + 1) in rw off (let low = h.0 in omega arith, let high = h.1 in omega arith)
]

pub first_hole-none : (f : Cells) (span : Span) (a : ℕ) → a ≡ absent_from f span.lo span.hi → span.hi ≤ a → None ≡ first_hole f span
unfolding first_hole
first_hole-none f span a at past =
    let test : leb span.hi (absent_from f span.lo span.hi) ≡ true = le-leb span.hi (absent_from f span.lo span.hi) (omega arith) in
    rw test refl

pub first_hole-some : (f : Cells) (span : Span) (a b : ℕ) → a ≡ absent_from f span.lo span.hi → a < span.hi → b ≡ present_from f a span.hi
    → Some (record { lo = a; hi = b }) ≡ first_hole f span
unfolding first_hole
first_hole-some f span a b at inside end =
    let test : leb span.hi (absent_from f span.lo span.hi) ≡ false = lt-leb span.hi (absent_from f span.lo span.hi) (omega arith) in
    rw (test, ← at, ← end) refl

-- an empty span has no hole
pub first_hole-empty : (f : Cells) (span : Span) → span.hi ≤ span.lo → None ≡ first_hole f span
unfolding absent_from
first_hole-empty f span empty =
    let low = first_place-low is_none f (span.hi - span.lo) span.lo in
    first_hole-none f span (absent_from f span.lo span.hi) refl (let h = low.0 in omega arith)
