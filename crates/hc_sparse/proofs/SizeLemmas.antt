-- At how many positions something is.
use Rattle.std.{proofs.{lemmas.Bool.Decides.{nat_tests}, Common.{◌≡◌, ℕ, suc, zero, ◌+◌, ◌-◌, ◌≤◌, ◌^◌, List, length, true, false, cond, None, refl, ap, ◌∙◌, arith, min}}, specs.Prelude.{is_some}}
use mathlib.Core.Path.{fun_ext}
use Rattle.hc_sparse.specs.Cells.{Cells, cells_with, AreAbsent, size, size_below}

below-none : (f : Cells) (n : ℕ) → ((p : ℕ) → f p ≡ None) → size_below f n ≡ 0
unfolding size_below
below-none f zero h = refl
below-none f (suc n) h = rw (h n, below-none f n h) refl

pub size-none : (f : Cells) → ((p : ℕ) → f p ≡ None) → size f ≡ 0
unfolding size
size-none f h = below-none f (2 ^ 62) h

pub size-same : (f g : Cells) → ((p : ℕ) → f p ≡ g p) → size f ≡ size g
size-same f g h = ap size (fun_ext h)

pub below-le : (f : Cells) (n : ℕ) → size_below f n ≤ n
unfolding size_below
below-le f zero = omega arith
below-le f (suc n) = let rest = below-le f n in elim (is_some (f n)) as (λ b. cond b 1 0 + size_below f n ≤ suc n) [ true ↦ omega arith | false ↦ omega arith ]

pub size-le : (f : Cells) → size f ≤ 2 ^ 62
unfolding size
size-le f = below-le f (2 ^ 62)

pub below-written : (f : Cells) (from x : ℕ) (bytes : List ℕ) (n : ℕ) → AreAbsent f from (from + length bytes) →
    size_below (cells_with from x bytes f) n ≡ size_below f n + (min n (from + length bytes) - from)
unfolding size_below
below-written f from x bytes zero absent = omega arith
below-written f from x bytes (suc n) absent =
    let rest = below-written f from x bytes n absent in
    grind (arith, nat_tests)

pub size-written : (f : Cells) (from x : ℕ) (bytes : List ℕ) → AreAbsent f from (from + length bytes) → from + length bytes ≤ 2 ^ 62 →
    size (cells_with from x bytes f) ≡ size f + length bytes
unfolding size
size-written f from x bytes absent end = let all = below-written f from x bytes (2 ^ 62) absent in omega (arith, all)

pub size-put : (f g : Cells) (at x : ℕ) (bytes : List ℕ) → ((p : ℕ) → g p ≡ cells_with at x bytes f p) → AreAbsent f at (at + length bytes) →
    at + length bytes ≤ 2 ^ 62 → size g ≡ size f + length bytes
size-put f g at x bytes is absent end = size-same g (cells_with at x bytes f) is ∙ size-written f at x bytes absent end
