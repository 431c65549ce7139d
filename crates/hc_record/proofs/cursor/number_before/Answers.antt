use Rattle.std.{proofs.{Common.{◌≡◌, ℕ, ◌+◌, ◌<◌, ◌==◌, true, not, List, ◌∷◌, ◌++◌, length, take, drop, get_or, sym, ap, ◌∙◌, arith}, lemmas.{Bool.{and_from, and_parts, both_ways, ne_eqb, not_from_false}, List.{take-append-drop, drop_more, Folds.{list_all_more}}, Str.{digit_value_digit}, Int.Digits.{digits_value_more}}}, specs.{Char.{is_ascii_digit, digit_value}, Str.Parse.{digits_value}}}
use Rattle.hc_text.specs.Texts.{lacks}
use Rattle.hc_record.proofs.{NumberCuts.{number_is, value_is, next_in}, cursor.number_before.Goals.{then-not-is_ascii_digit-via-then-not-is_ascii_digit, then-not-is_ascii_digit-via-else-not-is_ascii_digit+then-n}}
use Rattle.hc_record.proofs.cursor.number_before.Goals as goal

pub returns-else-is_plain-clause-none : goal.returns-else-is_plain-clause-none
returns-else-is_plain-clause-none c = λ m after small is.
    let text = c.args.text.now in
    let i = c.loop-i.i in
    let whole : take i text ++ c.args.end ∷ drop (i + 1) text ≡ text =
    rw (← c.if-b-end.true) (rw (← drop_more text i 0 c.loop-i-test.true) (take-append-drop i text)) in
    let same = number_is c.args.end m i after text c.requires small is c.loop-i.invariant.2 whole in
    let value : c.loop-i.n ≡ m = c.loop-i.invariant.0 ∙ (ap (digits_value 10) same ∙ value_is m small) in
    both_ways _ c.if-is_plain.false (c.is_plain.ensures.1 (rw value (small, same)))

-- the byte lacks so far and here
lacks_more : (e : ℕ) (text : List ℕ) (i : ℕ) → i < length text → lacks e (take i text) ≡ true → (get_or text i 0 ≡ e → ⊥) → lacks e (take (i + 1) text) ≡ true
lacks_more e text i within lacking differs =
    list_all_more (λ b. not (b == e)) text i 0 within ∙ and_from _ _ lacking (not_from_false _ (ne_eqb (get_or text i 0) e differs))

pub returns-then-not-is_ascii_digit-clause-none : goal.returns-then-not-is_ascii_digit-clause-none
returns-then-not-is_ascii_digit-clause-none c = λ m after small is.
    let text = c.args.text.now in
    let i = c.loop-i.i in
    let lacking = lacks_more c.args.end text i c.loop-i-test.true c.loop-i.invariant.2 c.if-b-end.false in
    let next = next_in c.args.end m i after text small is lacking in
    elim c.then-not-is_ascii_digit.branch [
      | then-not-is_ascii_digit-via-then-not-is_ascii_digit w ↦
          let digit = (and_parts _ _ (sym (list_all_more is_ascii_digit text i 0 c.loop-i-test.true) ∙ next.0)).1 in
          both_ways _ (sym c.is_ascii_digit.ensures.value ∙ w.if-not-is_ascii_digit.true) digit
      | then-not-is_ascii_digit-via-else-not-is_ascii_digit+then-n w ↦
          let more = digits_value_more 10 text i c.loop-i-test.true in
          omega (arith, w.if-n.true, c.loop-i.invariant.0, more, next.1, small)
    ]

pub loop-i-preserved : goal.loop-i-preserved
loop-i-preserved c =
    let text = c.args.text.now in
    let i = c.loop-i.i in
    let more = digits_value_more 10 text i c.loop-i-test.true in
    let is_digit : is_ascii_digit (get_or text i 0) ≡ true = sym c.is_ascii_digit.ensures.value ∙ c.if-not-is_ascii_digit.false in
    let range = c.if-not-is_ascii_digit.ensures.cases in
    let digit : c.from.result ≡ digit_value (get_or text i 0) = omega (arith, c.from.ensures, digit_value_digit (get_or text i 0) range, range.0) in
    let all = list_all_more is_ascii_digit text i 0 c.loop-i-test.true in (
      rw (c.loop-i.invariant.0, digit) (sym more),
      all ∙ and_from _ _ c.loop-i.invariant.1 is_digit,
      lacks_more c.args.end text i c.loop-i-test.true c.loop-i.invariant.2 c.if-b-end.false,
      omega (arith, c.if-n.false, c.from.ensures, range.0, range.1),
    )
