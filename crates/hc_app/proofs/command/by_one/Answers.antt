use Rattle.std.proofs.Common.{sym, ◌∙◌}
use Rattle.hc_app.proofs.Wording.{is_replay, is_save, is_open, is_conditional}
use Rattle.hc_app.proofs.command.by_one.Goals as goal

pub returns-then-eq-clause-found : goal.returns-then-eq-clause-found
returns-then-eq-clause-found c = is_replay _ (rw c.as_str-word.ensures.value at (sym c.eq.ensures ∙ c.if-eq.true))

pub returns-then-eq-2-clause-found : goal.returns-then-eq-2-clause-found
returns-then-eq-2-clause-found c = is_save _ (rw c.as_str-word.ensures.value at (sym c.eq-else-eq.ensures ∙ c.if-eq-2.true))

pub returns-then-eq-3-clause-found : goal.returns-then-eq-3-clause-found
returns-then-eq-3-clause-found c = is_open _ (rw c.as_str-word.ensures.value at (sym c.eq-else-eq-2.ensures ∙ c.if-eq-3.true))

pub returns-then-eq-4-clause-found : goal.returns-then-eq-4-clause-found
returns-then-eq-4-clause-found c = is_conditional _ (rw c.as_str-word.ensures.value at (sym c.eq-else-eq-3.ensures ∙ c.if-eq-4.true))
