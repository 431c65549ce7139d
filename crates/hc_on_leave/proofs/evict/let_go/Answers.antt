use Rattle.std.proofs.Common.{refl, sym, ◌∙◌}
use Rattle.hc_on_leave.proofs.LetGoHandler.{lets_go, lets_none_go}
use Rattle.hc_on_leave.proofs.evict.let_go.Goals as goal

pub returns-then-not-is_current-clause-stands : goal.returns-then-not-is_current-clause-stands
returns-then-not-is_current-clause-stands g c = lets_none_go c.args.rows.now c.args.now c.args.r (sym c.is_current.ensures ∙ c.if-not-is_current.true)

pub returns-clause-stands : goal.returns-clause-stands
returns-clause-stands g c =
    lets_go c.args.rows.now _ c.args.now c.args.r c.in-Some.key.now c.passed_back.new.self c.in-Some.ensures
    (sym c.is_current.ensures ∙ c.if-not-is_current.false) refl refl
    c.start_passed_over.ensures c.passed_back.ensures c.clear_current.ensures c.forget.ensures.changed
