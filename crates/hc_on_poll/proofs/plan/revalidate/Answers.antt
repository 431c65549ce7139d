use Rattle.std.{proofs.Common.{◌≡◌, nat_eq, refl}, specs.HashMap.{get}}
use Rattle.hc_effects.proofs.Vocabulary.{act_list, need as needs}
use Rattle.hc_record.specs.Plain.{plain}
use Rattle.hc_validate.specs.Conditions.{conditional}
use Rattle.hc_state.proofs.Maps.{lent, some_that}
use Rattle.hc_on_poll.proofs.{FetchHandler.{asked_answered}, Polled.{within_limits_there}}
use Rattle.hc_on_poll.proofs.plan.revalidate.Goals as goal

pub conditional-requires : goal.conditional-requires
conditional-requires g c =
    let r = c.args.rows.now in
    let at = lent c.get.result (get nat_eq r.consumers c.args.c) c.unwrap-consumer.result c.get.ensures.value c.unwrap-consumer.ensures in
    within_limits_there r c.requires.opens.stands c.args.c c.unwrap-consumer.result.now at

pub returns-clause-answers : goal.returns-clause-answers
returns-clause-answers g c =
    let r = c.args.rows.now in
    let k = c.unwrap-consumer.result.now in
    let at = lent c.get.result (get nat_eq r.consumers c.args.c) c.unwrap-consumer.result c.get.ensures.value c.unwrap-consumer.ensures in
    some_that (get nat_eq r.consumers c.args.c) k _ at (λ want limits t v facts stands row is.
    asked_answered r c.begin_turn.new.rows t facts c.args.now c.args.c want c.in_ok-x.x v stands row needs.Validate refl
    (λ same. let never : needs.Validate ≡ needs.Bypass = same in cc) c.in_ok-request.request (conditional (plain c.args.head.now) k.request)
    c.in_ok-request.ensures
    is c.in_ok-x.ensures.begun (act_list c.args.out.now) (act_list c.open.new.out) c.open.ensures)
