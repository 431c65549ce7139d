-- Bytes that are kept in one place.
use Rattle.std.proofs.Common.{◌≡◌, inl, inr, ℕ, ◌+◌, ◌-◌, ◌≤◌, List, ◌++◌, length, Some, refl, ap, ◌∙◌, arith, get_or, take, drop, get_or-take, get_or-drop, length-take, length-drop}
use Rattle.hc_text.proofs.Basics.{lt_or as split}
use Rattle.hc_sparse.specs.{Cells.{Cells, Covers, GoesTo}, Runs.{cells_of, IsRunFrom}, Stretch.{bytes_from, IsPart}, declared.run.Run.{Run}}
use Rattle.hc_sparse.proofs.StretchLemmas.{bytes-append}

-- What a part has of a stretch.
pub part-of : (f : Cells) (p x : ℕ) (bytes : List ℕ) (most : ℕ) → IsPart f p x bytes → let part = take most bytes in bytes_from f x p most ≡ part ++
    bytes_from f x (p + length part) (most - length part)
part-of f p x bytes most is =
    let part : List ℕ = take most bytes in
    let len : length part ≤ most = omega (arith, length-take most bytes) in
    let short : length part ≤ length bytes = omega (arith, length-take most bytes) in
    let run = bytes-append f x part p (most - length part) (λ i lt. is.each i (omega arith) ∙ rw (get_or-take most bytes i 0 (omega arith)) refl) in
    ap (λ k. bytes_from f x p k) (omega arith) ∙ run

-- The first byte of a part is at its position.
pub part-here : (f : Cells) (p x : ℕ) (bytes : List ℕ) → IsPart f p x bytes → f p ≡ Some (record { byte = get_or bytes 0 0; x = x })
part-here f p x bytes is = let some = is.some in let at-p : p + 0 ≡ p = omega arith in rw at-p at (is.each 0 some)

-- What is covered up to a position is covered up to where it goes on to.
pub covers-on : (f : Cells) (lo p end : ℕ) → GoesTo f p end → Covers f lo p → Covers f lo end
covers-on f lo p end on before q ge lt = elim (split q p) [
  | inl below ↦ before q ge below
  | inr over ↦ on.covers q over lt
]

-- The rest of a run is a part.
pub run-is_part : (rs : List Run) (p : ℕ) (r : Run) → IsRunFrom rs p r → r.at ≤ p → IsPart (cells_of rs) p r.x (drop (p - r.at) r.bytes)
run-is_part rs p r has lo = search (arith, length-drop, get_or-drop)
