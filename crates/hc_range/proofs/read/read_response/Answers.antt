use Rattle.std.proofs.{Common.{ℕ, [], ◌∷◌, subst, sym, ◌∙◌}, lemmas.{Bool.{iff_false}, List.{append_assoc}}}
use Rattle.hc_range.specs.Ranges.{SpellsTotal}
use Rattle.hc_range.proofs.ReadLemmas.{response_at, reports_unsatisfied, gives_part, number_unique, same_total, same_last, same_part}
use Rattle.hc_range.proofs.read.read_response.Goals as goal

pub returns-in_err-total-clause-spelled : goal.returns-in_err-total-clause-spelled
returns-in_err-total-clause-spelled c = λ range h.
    let positions = c.in_ok-positions.positions.now in
    let length = c.in_ok-positions.length.now in
    let star = c.is_asterisk.ensures.0 c.if-is_asterisk.true in
    let reports = reports_unsatisfied positions length range star
    (response_at c.args.text.now positions length c.in_ok-positions.ensures.found c.in_ok-positions.ensures.first range h) in
    absurd (c.in_err-total.ensures.none reports.0 reports.2)

pub returns-then-is_asterisk-clause-spelled : goal.returns-then-is_asterisk-clause-spelled
returns-then-is_asterisk-clause-spelled c = λ range h.
    let positions = c.in_ok-positions.positions.now in
    let length = c.in_ok-positions.length.now in
    let star = c.is_asterisk.ensures.0 c.if-is_asterisk.true in
    let reports = reports_unsatisfied positions length range star
    (response_at c.args.text.now positions length c.in_ok-positions.ensures.found c.in_ok-positions.ensures.first range h) in
    same_total c.in_ok-total.total reports.0 range reports.1 (number_unique length c.in_ok-total.total reports.0 c.in_ok-total.ensures.found reports.2)

pub returns-in_err-first-clause-spelled : goal.returns-in_err-first-clause-spelled
returns-in_err-first-clause-spelled c = λ range h.
    let positions = c.in_ok-positions.positions.now in
    let length = c.in_ok-positions.length.now in
    let no_star = iff_false c.is_asterisk.ensures c.if-is_asterisk.false in
    let reports = gives_part positions length range no_star
    (response_at c.args.text.now positions length c.in_ok-positions.ensures.found c.in_ok-positions.ensures.first range h) in
    let spelled = c.read_positions.ensures.spelled reports.0 reports.1 reports.4 in
    let none = c.in_err-first.was in
    cc

pub returns-in_err-total-2-clause-spelled : goal.returns-in_err-total-2-clause-spelled
returns-in_err-total-2-clause-spelled c = λ range h.
    let positions = c.in_ok-positions.positions.now in
    let length = c.in_ok-positions.length.now in
    let no_star = iff_false c.is_asterisk.ensures c.if-is_asterisk.false in
    let reports = gives_part positions length range no_star
    (response_at c.args.text.now positions length c.in_ok-positions.ensures.found c.in_ok-positions.ensures.first range h) in
    let last = same_last c.read_positions.result c.in_ok-first.first c.in_ok-first.last reports.0 reports.1 c.in_ok-first.was
    (c.read_positions.ensures.spelled reports.0 reports.1 reports.4) in
    let total = c.read_total.ensures.spelled reports.2 (subst (λ (n : ℕ). SpellsTotal length n reports.2) (sym last) reports.5) in
    let none = c.in_err-total-2.was in
    cc

pub returns-clause-found : goal.returns-clause-found
returns-clause-found c =
    let positions = c.in_ok-positions.positions.now in
    let length = c.in_ok-positions.length.now in (
      positions,
      length,
      c.in_ok-first.ensures.found,
      c.in_ok-total-2.ensures.found,
      c.in_ok-positions.ensures.found ∙
          sym (append_assoc positions (47 ∷ []) length),
    )

pub returns-clause-spelled : goal.returns-clause-spelled
returns-clause-spelled c = λ range h.
    let positions = c.in_ok-positions.positions.now in
    let length = c.in_ok-positions.length.now in
    let no_star = iff_false c.is_asterisk.ensures c.if-is_asterisk.false in
    let reports = gives_part positions length range no_star
    (response_at c.args.text.now positions length c.in_ok-positions.ensures.found c.in_ok-positions.ensures.first range h) in
    let spelled = c.read_positions.ensures.spelled reports.0 reports.1 reports.4 in
    let last = same_last c.read_positions.result c.in_ok-first.first c.in_ok-first.last reports.0 reports.1 c.in_ok-first.was spelled in
    same_part c.read_positions.result c.in_ok-first.first c.in_ok-first.last reports.0 reports.1 c.read_total.result c.in_ok-total-2.total reports.2 range
    c.in_ok-first.was spelled c.in_ok-total-2.was
    (c.read_total.ensures.spelled reports.2 (subst (λ (n : ℕ). SpellsTotal length n reports.2) (sym last) reports.5)) reports.3
