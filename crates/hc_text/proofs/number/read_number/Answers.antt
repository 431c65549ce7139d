use Rattle.std.{proofs.{Common.{◌≡◌, ℕ, ◌+◌, ◌<◌, ◌==◌, false, List, [], ◌∷◌, length, refl, sym, ◌∙◌, arith}, lemmas.{Bool.{and_from, both_ways}, List.{take_all, Folds.{list_all_at, list_all_more}}, Int.Digits.{digits_value_more}, Str.Parse.{digits_value-take-le}}}, specs.Char.{is_ascii_digit}}
use Rattle.hc_text.proofs.NumberLemmas.{tested-AllDigits, IsNumber-tested}
use Rattle.hc_text.proofs.number.read_number.Goals as goal

pub returns-in_err-digit-clause-none : goal.returns-in_err-digit-clause-none
returns-in_err-digit-clause-none c = rw c.from_residual.ensures (λ n h.
    both_ways _ (list_all_at is_ascii_digit c.args.text.now c.loop-b.b-index 0 c.loop-b-test.true c.in_err-digit.ensures)
    (tested-AllDigits c.args.text.now h.1.1))

pub returns-then-n-clause-none : goal.returns-then-n-clause-none
returns-then-n-clause-none c = λ n h.
    let more = digits_value_more 10 c.args.text.now c.loop-b.b-index c.loop-b-test.true in
    let le = digits_value-take-le 10 c.args.text.now (c.loop-b.b-index + 1) (omega arith) in
    omega (arith, c.loop-b.invariant.0, more, le, h.0, h.3, c.if-n.true)

pub loop-b-preserved : goal.loop-b-preserved
loop-b-preserved c =
    let more = digits_value_more 10 c.args.text.now c.loop-b.b-index c.loop-b-test.true in
    let digit = c.in_ok-digit.ensures in
    let all = list_all_more is_ascii_digit c.args.text.now c.loop-b.b-index 0 c.loop-b-test.true in
    (rw (c.loop-b.invariant.0, digit.1) (sym more), all ∙ and_from _ _ c.loop-b.invariant.1 digit.0, omega (arith, c.if-n.false, digit.2))

some : (text : List ℕ) → (length text == 0) ≡ false → 0 < length text
some [] empty = absurd (both_ways _ empty refl)
some (b ∷ text) empty = omega arith

pub returns-then-n-lt-LIMIT-clause-found : goal.returns-then-n-lt-LIMIT-clause-found
returns-then-n-lt-LIMIT-clause-found c =
    let whole = take_all c.loop-b.b-index c.args.text.now c.loop-b-test.false in
    let is = rw whole at c.loop-b.invariant.0 in
    let all = rw whole at c.loop-b.invariant.1 in
    IsNumber-tested c.args.text.now c.loop-b.n (some c.args.text.now (sym c.if-is_empty.ensures)) c.if-text-gt-MOST_DIGITS.false all is c.if-n-lt-LIMIT.true
