use Rattle.std.{proofs.{Common.{◌≡◌, ℕ, ◌<◌, length, false, sym, ◌∙◌, arith}, lemmas.Bool.{both_ways, and_parts, eqb-true, Decides.{nat_tests}}}, specs.Prelude.{◌==◌}}
use Rattle.hc_fields.proofs.{ReadLemmas.{IsCut-field, IsField-cut, same_line}, reading.read_line.Goals.{then-is_empty-via-then-is_empty, then-is_empty-via-else-is_empty+then-value-gt8192, then-is_empty-via-else-is_empty+else-value-gt8192+then-not-has_own_ends}}
use Rattle.hc_fields.proofs.reading.read_line.Goals as goal

some_bytes : (n : ℕ) → (n == 0) ≡ false → 0 < n
some_bytes n h = grind (arith, nat_tests)

pub returns-in_err-name-clause-none : goal.returns-in_err-name-clause-none
returns-in_err-name-clause-none c = rw c.from_residual.ensures (λ f after field. c.in_err-name.ensures.none f after (IsCut-field f field))

pub returns-then-is_empty-clause-none : goal.returns-then-is_empty-clause-none
returns-then-is_empty-clause-none c = λ f after field same.
    let own = same_line f (c.in_ok-name.name.now, c.in_ok-name.value.now) after c.args.text.now field c.in_ok-name.ensures.found.0
    c.in_ok-name.ensures.found.1 same in
    elim c.then-is_empty.branch [
      | then-is_empty-via-then-is_empty w ↦ omega (arith, own.is_name.0, eqb-true _ _ (sym c.is_empty.ensures ∙ w.if-is_empty.true))
      | then-is_empty-via-else-is_empty+then-value-gt8192 w ↦ omega (arith, own.is_short, w.if-value-gt8192.true)
      | then-is_empty-via-else-is_empty+else-value-gt8192+then-not-has_own_ends w ↦ both_ways _ (sym w.has_own_ends.ensures ∙ w.if-not-has_own_ends.true)
          (and_parts _ _ own.is_value).1
    ]

pub returns-clause-found : goal.returns-clause-found
returns-clause-found c =
    let found = c.in_ok-name.ensures.found in
    let some : (length c.in_ok-name.name.now == 0) ≡ false = sym c.is_empty.ensures ∙ c.if-is_empty.false in (
      IsField-cut (c.in_ok-name.name.now, c.in_ok-name.value.now) found.0 (some_bytes (length c.in_ok-name.name.now) some) c.if-value-gt8192.false
          (sym c.has_own_ends.ensures ∙ c.if-not-has_own_ends.false),
      found.1,
    )
