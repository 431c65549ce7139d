-- Texts that grow.
use Rattle.std.{proofs.{Common.{◌≡◌, ℕ, zero, suc, ◌+◌, List, [], ◌∷◌, ◌++◌, take, Some, refl, arith, append_assoc}, lemmas.List.{append-nil}}, specs.List.{slice_get}}

-- the text of a list whose elements are written one after another
module _ {X : Type 0} (text : X → List ℕ) (texts : List X → List ℕ) (none : texts [] ≡ [])
    (one : (x : X) (xs : List X) → texts (x ∷ xs) ≡ text x ++ texts xs) where
  pub texts_more : (xs : List X) (i : ℕ) (x : X) → slice_get xs i ≡ Some x → texts (take (i + 1) xs) ≡ texts (take i xs) ++ text x
  texts_more [] i x at = cc
  texts_more (y ∷ xs) zero x at = let same : y ≡ x = cc in rw (one y [], none, append-nil, same) refl
  texts_more (y ∷ xs) (suc i) x at =
      let e : suc i + 1 ≡ suc (i + 1) = omega arith in
      rw (e, one y (take (i + 1) xs), one y (take i xs), texts_more xs i x at, append_assoc) refl

  pub texts_grow : (xs : List X) (i : ℕ) (x : X) (old mid new : List ℕ) → slice_get xs i ≡ Some x
      → mid ≡ old ++ texts (take i xs) → new ≡ mid ++ text x → new ≡ old ++ texts (take (i + 1) xs)
  texts_grow xs i x old mid new at before is = rw (texts_more xs i x at, ← append_assoc, ← before) is
