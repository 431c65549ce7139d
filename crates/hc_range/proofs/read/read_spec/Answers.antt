use Rattle.std.proofs.{Common.{◌≡◌, length, sym, ◌∙◌}, lemmas.Bool.{eqb-true, eqb-false}}
use Rattle.hc_range.proofs.ReadLemmas.{spec_at, asks_last, asks_from, asks_positions, number_unique, same_positions}
use Rattle.hc_range.proofs.read.read_spec.Goals as goal

pub returns-in_err-n-clause-spelled : goal.returns-in_err-n-clause-spelled
returns-in_err-n-clause-spelled c = λ asked h.
    let first = c.in_ok-first.first.now in
    let last = c.in_ok-first.last.now in
    let none = eqb-true (length first) 0 (sym c.is_empty.ensures ∙ c.if-is_empty.true) in
    let asks = asks_last first last asked none (spec_at c.args.text.now first last c.in_ok-first.ensures.found c.in_ok-first.ensures.first asked h) in
    absurd (c.in_err-n.ensures.none asks.0 asks.2)

pub returns-then-is_empty-clause-spelled : goal.returns-then-is_empty-clause-spelled
returns-then-is_empty-clause-spelled c = λ asked h.
    let first = c.in_ok-first.first.now in
    let last = c.in_ok-first.last.now in
    let none = eqb-true (length first) 0 (sym c.is_empty.ensures ∙ c.if-is_empty.true) in
    let asks = asks_last first last asked none (spec_at c.args.text.now first last c.in_ok-first.ensures.found c.in_ok-first.ensures.first asked h) in
    let n : c.in_ok-n.n ≡ asks.0 = number_unique last c.in_ok-n.n asks.0 c.in_ok-n.ensures.found asks.2 in
    let is = asks.1 in
    cc

pub returns-in_err-first-2-clause-spelled : goal.returns-in_err-first-2-clause-spelled
returns-in_err-first-2-clause-spelled c = λ asked h.
    let first = c.in_ok-first.first.now in
    let last = c.in_ok-first.last.now in
    let some = eqb-false (length first) 0 (sym c.is_empty.ensures ∙ c.if-is_empty.false) in
    let none = eqb-true (length last) 0 (sym c.is_empty-2.ensures ∙ c.if-is_empty-2.true) in
    let asks = asks_from first last asked some none (spec_at c.args.text.now first last c.in_ok-first.ensures.found c.in_ok-first.ensures.first asked h) in
    absurd (c.in_err-first-2.ensures.none asks.0 asks.2)

pub returns-then-is_empty-2-clause-spelled : goal.returns-then-is_empty-2-clause-spelled
returns-then-is_empty-2-clause-spelled c = λ asked h.
    let first = c.in_ok-first.first.now in
    let last = c.in_ok-first.last.now in
    let some = eqb-false (length first) 0 (sym c.is_empty.ensures ∙ c.if-is_empty.false) in
    let none = eqb-true (length last) 0 (sym c.is_empty-2.ensures ∙ c.if-is_empty-2.true) in
    let asks = asks_from first last asked some none (spec_at c.args.text.now first last c.in_ok-first.ensures.found c.in_ok-first.ensures.first asked h) in
    let n : c.in_ok-first-2.first ≡ asks.0 = number_unique first c.in_ok-first-2.first asks.0 c.in_ok-first-2.ensures.found asks.2 in
    let is = asks.1 in
    cc

pub returns-in_err-first-3-clause-spelled : goal.returns-in_err-first-3-clause-spelled
returns-in_err-first-3-clause-spelled c = λ asked h.
    let text = c.args.text.now in
    let first = c.in_ok-first.first.now in
    let last = c.in_ok-first.last.now in
    let some = eqb-false (length first) 0 (sym c.is_empty.ensures ∙ c.if-is_empty.false) in
    let more = eqb-false (length last) 0 (sym c.is_empty-2.ensures ∙ c.if-is_empty-2.false) in
    let asks = asks_positions text first last c.in_ok-first.ensures.found c.in_ok-first.ensures.first some more asked h in
    let read = c.read_positions.ensures.spelled asks.0 asks.1 asks.3 in
    let none = c.in_err-first-3.was in
    cc

pub returns-clause-spelled : goal.returns-clause-spelled
returns-clause-spelled c = λ asked h.
    let text = c.args.text.now in
    let first = c.in_ok-first.first.now in
    let last = c.in_ok-first.last.now in
    let some = eqb-false (length first) 0 (sym c.is_empty.ensures ∙ c.if-is_empty.false) in
    let more = eqb-false (length last) 0 (sym c.is_empty-2.ensures ∙ c.if-is_empty-2.false) in
    let asks = asks_positions text first last c.in_ok-first.ensures.found c.in_ok-first.ensures.first some more asked h in
    same_positions c.read_positions.result c.in_ok-first-3.first c.in_ok-first-3.last asks.0 asks.1 asked c.in_ok-first-3.was
    (c.read_positions.ensures.spelled asks.0 asks.1 asks.3) asks.2
