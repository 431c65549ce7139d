use Rattle.std.{proofs.Common.{nat_eq, ap}, specs.HashMap.{get}}
use Rattle.hc_effects.proofs.Vocabulary.{act_list, Request}
use Rattle.hc_state.proofs.Maps.{lent, some_that}
use Rattle.hc_on_poll.proofs.FetchHandler.{bypassed}
use Rattle.hc_on_poll.proofs.plan.bypass.Goals as goal

pub begin_turn-requires-clause-key : goal.begin_turn-requires-clause-key
begin_turn-requires-clause-key g c =
    let r = c.args.rows.now in
    let at = lent c.get.result (get nat_eq r.consumers c.args.c) c.unwrap-consumer.result c.get.ensures.value c.unwrap-consumer.ensures in
    some_that (get nat_eq r.consumers c.args.c) c.unwrap-consumer.result.now _ at (ap (λ (z : Request). z.key) c.in_ok-request.ensures)

pub returns-clause-answers : goal.returns-clause-answers
returns-clause-answers g c =
    let r = c.args.rows.now in
    let k = c.unwrap-consumer.result.now in
    let at = lent c.get.result (get nat_eq r.consumers c.args.c) c.unwrap-consumer.result c.get.ensures.value c.unwrap-consumer.ensures in
    some_that (get nat_eq r.consumers c.args.c) k _ at (λ want limits t v facts stands row is.
    bypassed r c.begin_turn.new.rows c.let_some_go.new.rows t facts c.args.now c.args.c want c.in_ok-x.x k v stands at row c.in_ok-request.request
    c.in_ok-request.ensures c.current-current.result c.current-current.ensures
    is c.in_ok-x.ensures.begun.number c.in_ok-x.ensures.begun.rows c.let_some_go.ensures.stands (act_list c.args.out.now) (act_list c.open.new.out)
    c.open.ensures)
