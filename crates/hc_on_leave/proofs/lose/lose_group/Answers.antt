use Rattle.std.{proofs.Common.{refl, ap, ◌∙◌}, specs.Prelude.{not}}
use Rattle.hc_effects.proofs.Vocabulary.{act_list}
use Rattle.hc_on_leave.proofs.LoseTurn.{closes_loss, loses_on, loses_out}
use Rattle.hc_on_leave.proofs.lose.lose_group.Goals as goal

pub returns-then-is_none-clause-lost : goal.returns-then-is_none-clause-lost
returns-then-is_none-clause-lost g c = λ limits t v may stands.
    let mid = c.lose_shared.new.rows in
    let rest = c.close.ensures.rest in
    let lost = c.lose_shared.ensures.lost _ t v may stands in
    loses_out c.close.new.rows t (act_list c.args.out.now) (act_list c.lose_shared.new.out) (act_list c.close.new.out) c.args.now c.args.r c.args.x v
    c.args.kind c.lose_shared.result lost.detached_reader_is c.lose_shared.ensures.acts
    (ap not c.is_none.ensures ∙ ap (λ b. not (not b)) c.if-is_none.true) c.close.ensures.acts
    (closes_loss mid c.close.new.rows t c.args.now c.args.r c.args.x v _ may lost.rows rest.last_start c.close.ensures.consumers rest.keys rest.entries
    c.close.ensures.closed)

pub returns-else-is_none-clause-lost : goal.returns-else-is_none-clause-lost
returns-else-is_none-clause-lost g c = λ limits t v may stands.
    let lost = c.lose_shared.ensures.lost _ t v may stands in
    loses_on c.lose_shared.new.rows t (act_list c.args.out.now) (act_list c.lose_shared.new.out) (act_list c.lose_shared.new.out) c.args.now c.args.r
    c.args.x v c.args.kind c.lose_shared.result lost.detached_reader_is c.lose_shared.ensures.acts
    (ap not c.is_none.ensures ∙ ap (λ b. not (not b)) c.if-is_none.false) refl lost.rows
