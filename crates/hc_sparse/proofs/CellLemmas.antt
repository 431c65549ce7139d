-- Bytes that are written over what was there.
use Rattle.std.proofs.{Common.{◌≡◌, ◌⊎◌, ℕ, ◌+◌, ◌<◌, ◌≤◌, Bool, true, false, cond, arith, List, ◌++◌, length, inl, inr, refl, ◌-◌, length-append}, lemmas.{List.{get_or_append_left, get_or-append-add}, Bool.Decides.{nat_tests}}}
use Rattle.hc_sparse.specs.Cells.{Cells, cells_with, inside}

pub inside-yes : (at n p : ℕ) → at ≤ p → p < at + n → inside at n p ≡ true
inside-yes at n p a b = grind (arith, nat_tests)

pub inside-before : (at n p : ℕ) → p < at → inside at n p ≡ false
inside-before at n p a = grind (arith, nat_tests)

pub inside-past : (at n p : ℕ) → at + n ≤ p → inside at n p ≡ false
inside-past at n p a = grind (arith, nat_tests)

pub inside-cases : (at n p : ℕ) → ((inside at n p ≡ true) × (at ≤ p) × (p < at + n)) ⊎ ((inside at n p ≡ false) × ((p < at) ⊎ (at + n ≤ p)))
inside-cases at n p = grind (arith, nat_tests)

-- Two writes of the same, or at different positions, may change places.
pub two-writes : {A : Type 0} (a b : Bool) (v w o : A) → (a ≡ true → b ≡ true → v ≡ w) → cond a v (cond b w o) ≡ cond b w (cond a v o)
two-writes true true v w o same = same refl refl
two-writes false true v w o same = refl
two-writes _ false v w o same = refl

-- Bytes written one after another are written at once.
pub written-append : (at x : ℕ) (bytes more : List ℕ) (f : Cells) (p : ℕ) →
    cells_with at x (bytes ++ more) f p ≡ cells_with (at + length bytes) x more (cells_with at x bytes f) p
written-append at x bytes more f p =
    let len = length-append bytes more in
    elim (inside-cases at (length bytes) p) [
      | inl here ↦ rw (
        here.0,
        inside-yes at (length (bytes ++ more)) p (omega arith) (omega arith),
        inside-before (at + length bytes) (length more) p (omega arith),
      )
          (let lt : p - at < length bytes = omega arith in rw (get_or_append_left bytes more 0 (p - at) lt) refl)
      | inr off ↦ elim (inside-cases (at + length bytes) (length more) p) [
        | inl there ↦ rw (there.0, inside-yes at (length (bytes ++ more)) p (omega arith) (omega arith))
            (let e : p - at ≡ length bytes + (p - (at + length bytes)) = omega arith in rw (e, get_or-append-add bytes more (p - (at + length bytes)) 0) refl)
        | inr out ↦
            let miss : inside at (length (bytes ++ more)) p ≡ false = elim off.1 [
              | inl before ↦ inside-before at (length (bytes ++ more)) p before
              | inr past ↦ elim out.1 [ inl near ↦ absurd (omega arith) | inr far ↦ inside-past at (length (bytes ++ more)) p (omega arith) ]
            ] in
            rw (out.0, off.0, miss) refl
      ]
    ]
