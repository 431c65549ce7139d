use Rattle.std.{proofs.{Common.{◌≡◌, ℕ, ◌<◌, ◌==◌, true, false, List, [], ◌∷◌, length, refl, sym, ◌∙◌, arith}, lemmas.{Bool.{both_ways, false≢true, eqb-true, eq-eqb, lt-ltb, Decides.{nat_tests}}, Str.Parse.{digits_value_short}}}, specs.Prelude.{nat_lt}}
use Rattle.hc_text.proofs.NumberLemmas.{IsNumber-plain, plain_first, tested}
use Rattle.hc_record.proofs.NumberCuts.{plain_is}
use Rattle.hc_record.proofs.cursor.is_plain.Goals as goal

pub returns-then-is_empty : goal.returns-then-is_empty
returns-then-is_empty c =
    let none : length c.args.digits.now ≡ 0 = eqb-true _ _ (sym c.is_empty.ensures ∙ c.if-is_empty.true) in
    (λ h. absurd (false≢true h), λ plain. let some = (IsNumber-plain c.args.digits.now c.args.n plain).1.0 in absurd (omega (arith, some, none)))

some : (ds : List ℕ) → (length ds == 0) ≡ false → 0 < length ds
some [] empty = absurd (both_ways _ empty refl)
some (d ∷ ds) empty = omega arith

pub returns-then-digits-eq48 : goal.returns-then-digits-eq48
returns-then-digits-eq48 c =
    let ds = c.args.digits.now in
    let first = c.if-digits-eq48.true in (
      λ one.
          let short : length ds ≡ 1 = eqb-true _ _ one in
          let few = digits_value_short tested ds 1 c.requires.digits (omega (arith, short)) in
          plain_is ds c.args.n c.requires.digits c.requires.value (omega (arith, short)) (λ e. short) (omega (arith, few, c.requires.value)),
      λ plain. eq-eqb _ _ (plain_first ds c.args.n plain first),
    )

below : (m n : ℕ) → nat_lt m n ≡ true → m < n
below m n h = grind (arith, nat_tests)

pub returns : goal.returns
returns c =
    let ds = c.args.digits.now in
    let more = some ds (sym c.is_empty.ensures ∙ c.if-is_empty.false) in (
      λ small. plain_is ds c.args.n c.requires.digits c.requires.value more (λ e. absurd (c.if-digits-eq48.false e)) (below _ _ small),
      λ plain. lt-ltb _ _ plain.0,
    )
