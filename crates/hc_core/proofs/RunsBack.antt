-- The longest runs of what is stored have just what is stored.
use Rattle.std.{proofs.{Common.{◌≡◌, ◌≢◌, ◌⊎◌, inl, inr, ℕ, zero, suc, ◌+◌, ◌-◌, ◌<◌, ◌≤◌, List, [], ◌∷◌, Option, Some, None, refl, ap, sym, ◌∙◌, subst, arith}, lemmas.Bool.Decides.{nat_tests}}, specs.Prelude.{◌==◌, ◌&&◌, if◌then◌else◌}}
use Rattle.hc_text.proofs.Basics.{and_left, and_right, same_or, lt_or as split}
use Rattle.hc_sparse.specs.{Cells.{Cells, Cell, EndsBy}, Runs.{cells_of}, declared.run.Run.{Run}}
use Rattle.hc_effects.proofs.Vocabulary.{run_from, with_cell, with_place, runs_from}

-- ONE MORE IN FRONT

-- alone it says nothing of any other place
lone_rest : (p q : ℕ) (cell : Cell) (runs : List Run) → p ≢ q → cells_of (run_from p cell [] ∷ runs) q ≡ cells_of runs q
lone_rest p q cell runs ne = grind (arith, nat_tests)

-- nor in front of a run that goes on
joined_rest : (p q : ℕ) (cell : Cell) (run : Run) (runs : List Run) → run.at ≡ p + 1 → run.x ≡ cell.x → p ≢ q →
    cells_of (run_from p cell run.bytes ∷ runs) q ≡ cells_of (run ∷ runs) q
joined_rest p q cell run runs at from ne = grind (arith, nat_tests)

with_here : (p : ℕ) (cell : Cell) (runs : List Run) → cells_of (with_cell p cell runs) p ≡ Some cell
with_here p cell runs = grind (arith, nat_tests)

with_else : (p q : ℕ) (cell : Cell) (runs : List Run) → p ≢ q → cells_of (with_cell p cell runs) q ≡ cells_of runs q
with_else p q cell [] ne = lone_rest p q cell [] ne
with_else p q cell (run ∷ runs) ne = grind (arith, nat_tests, lone_rest, and_left, and_right, joined_rest)

-- ALL OF THEM

-- nothing before the first place, nor past the last
none_from : (f : Cells) (p n q : ℕ) → (q < p) ⊎ (p + n ≤ q) → cells_of (runs_from f p n) q ≡ None
none_from f p zero q off = refl
none_from f p (suc n) q off = by_cell (f p) (none_from f (p + 1) n q (later off))
  where
    later : (q < p) ⊎ (p + suc n ≤ q) → (q < p + 1) ⊎ (p + 1 + n ≤ q)
    later (inl before) = inl (omega (arith, before))
    later (inr past) = inr (omega (arith, past))

    apart : (q < p) ⊎ (p + suc n ≤ q) → p ≢ q
    apart (inl before) same = omega (arith, before, same)
    apart (inr past) same = omega (arith, past, same)

    by_cell : (z : Option Cell) → cells_of (runs_from f (p + 1) n) q ≡ None → cells_of (with_place p z (runs_from f (p + 1) n)) q ≡ None
    by_cell None rest = rest
    by_cell (Some cell) rest = with_else p q cell (runs_from f (p + 1) n) (apart off) ∙ rest

back_from : (f : Cells) (p n q : ℕ) → p ≤ q → q < p + n → cells_of (runs_from f p n) q ≡ f q
back_from f p zero q low high = absurd (omega (arith, low, high))
back_from f p (suc n) q low high = by_cell (f p) refl (λ le. back_from f (p + 1) n q le (omega (arith, high)))
  where
    by_cell : (z : Option Cell) → f p ≡ z → (p + 1 ≤ q → cells_of (runs_from f (p + 1) n) q ≡ f q) → cells_of (with_place p z (runs_from f (p + 1) n)) q ≡ f q
    by_cell None is rest = elim (same_or p q) [
      | inl same ↦ none_from f (p + 1) n q (inl (omega (arith, same))) ∙ sym (ap f (sym same) ∙ is)
      | inr ne ↦ rest (omega (arith, low, ne))
    ]
    by_cell (Some cell) is rest = elim (same_or p q) [
      | inl same ↦ subst (λ (m : ℕ). cells_of (with_cell p cell (runs_from f (p + 1) n)) m ≡ f m) same (with_here p cell (runs_from f (p + 1) n) ∙ sym is)
      | inr ne ↦ with_else p q cell (runs_from f (p + 1) n) ne ∙ rest (omega (arith, low, ne))
    ]

pub cells_back : (f : Cells) (n p : ℕ) → EndsBy n f → cells_of (runs_from f 0 n) p ≡ f p
cells_back f n p ends = grind (arith, nat_tests, split, back_from, none_from)
