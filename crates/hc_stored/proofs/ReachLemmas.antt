-- Where the last byte ends once bytes are written.
use Rattle.std.{proofs.{Common.{◌≡◌, ℕ, ◌+◌, ◌-◌, ◌<◌, ◌≤◌, ◌⊎◌, List, length, true, false, eqb, leb, refl, ◌∙◌, inl, inr, arith}, lemmas.Bool.{cases_Bool, Decides.{nat_tests}}}, specs.Prelude.{is_some, max, ◌||◌}}
use Rattle.hc_sparse.specs.Cells.{Cells, inside, cells_with, EndsBy}
use Rattle.hc_stored.specs.Shelved.{Reaches}

module _ (at x : ℕ) (bytes : List ℕ) (cells : Cells) (reach : ℕ) (some : 0 < length bytes) where
  beyond : (p : ℕ) → at + length bytes ≤ p → cells_with at x bytes cells p ≡ cells p
  beyond p le = let off : inside at (length bytes) p ≡ false = grind (arith, nat_tests) in rw off refl

  within : (p : ℕ) → at ≤ p → p < at + length bytes → is_some (cells_with at x bytes cells p) ≡ true
  within p le lt = let on : inside at (length bytes) p ≡ true = grind (arith, nat_tests) in rw on refl

  pub reaches-written : Reaches cells reach → Reaches (cells_with at x bytes cells) (max reach (at + length bytes))
  reaches-written before = record { ends = ends; last = last (cases_Bool (leb reach (at + length bytes))) } where
    ends : EndsBy (max reach (at + length bytes)) (cells_with at x bytes cells)
    ends p le =
        let far : at + length bytes ≤ p = grind (arith, nat_tests) in
        let past : reach ≤ p = grind (arith, nat_tests) in
        beyond p far ∙ before.ends p past

    last : (leb reach (at + length bytes) ≡ true) ⊎ (leb reach (at + length bytes) ≡ false)
        → (eqb (max reach (at + length bytes)) 0 || is_some (cells_with at x bytes cells (max reach (at + length bytes) - 1))) ≡ true
    last (inl le) =
        let e : max reach (at + length bytes) ≡ at + length bytes = grind (arith, nat_tests) in
        let p : is_some (cells_with at x bytes cells (at + length bytes - 1)) ≡ true = within (at + length bytes - 1) (omega arith) (omega arith) in
        rw e (let f : eqb (at + length bytes) 0 ≡ false = grind (arith, nat_tests) in rw (f, p) refl)
    last (inr gt) =
        let e : max reach (at + length bytes) ≡ reach = grind (arith, nat_tests) in
        let far : at + length bytes ≤ reach - 1 = grind (arith, nat_tests) in
        rw (e, beyond (reach - 1) far) before.last
