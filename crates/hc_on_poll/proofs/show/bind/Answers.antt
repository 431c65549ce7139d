use Rattle.std.{proofs.Common.{Some, nat_eq, refl, ap, ◌∙◌, subst}, specs.HashMap.{get}}
use Rattle.hc_effects.proofs.Vocabulary.{act_list, Response}
use Rattle.hc_record.specs.Plain.{plain}
use Rattle.hc_validate.specs.Showing.{shown_response}
use Rattle.hc_state.specs.{Handlers.{IsLeft}, Kept.{KeepsConsumer}, Plans.{HasCurrent}}
use Rattle.hc_on_poll.specs.Ready.{MayLeaveLine}
use Rattle.hc_on_poll.proofs.{BindHandler.{bind_answered, shows_reported, part_ends, current_total}, PassesHandler.{current_as}}
use Rattle.hc_state.proofs.Maps.{lent, known_of, some_that}
use Rattle.hc_on_poll.proofs.show.bind.Goals as goal

pub returns-clause-answers : goal.returns-clause-answers
returns-clause-answers g c =
    let r = c.args.rows.now in
    let at_row = get nat_eq r.consumers c.args.c in
    let k = c.unwrap-consumer.result.now in
    let lo = c.bounds_of-lo.result.0 in
    let hi = c.bounds_of-lo.result.1 in
    let head = plain c.args.head in
    let at = lent c.get.result at_row c.unwrap-consumer.result c.get.ensures.value c.unwrap-consumer.ensures in
    let idle = (known_of at_row k (MayLeaveLine r.keys c.args.c) at c.requires.leaves).idle in
    let now_is = known_of at_row k (HasCurrent r.keys c.args.r) at c.requires.current.current in
    some_that at_row k _ at (λ now want limits t v facts stands row is.
    let kept = subst (KeepsConsumer t (Some k)) row (subst (λ o. KeepsConsumer t o (t.consumer c.args.c)) at (stands.consumers c.args.c)) in
    let same = current_total r t v.request.key c.args.r head stands (current_as r t k v c.args.r stands kept now_is) c.requires.current.head in
    let response : Response = record { status = c.in_ok-shown.shown.status; fields = c.in_ok-shown.shown.fields } in
    let from = c.bounds_of-lo.ensures.from in
    let to = c.bounds_of-lo.ensures.to in
    bind_answered r (record r { entries = c.bind.new.self; keys = c.leave_line_in.new.keys }) c.bind.new.self c.bind_shown.new.consumers t facts.law
    c.args.c c.args.r lo hi k v stands at row idle now_is
    (part_ends (t.representation c.args.r) head c.args.span hi to same)
    (record {
      last_start = refl;
      consumers = refl;
      exchanges = refl;
      entries = refl;
      line =
          some_that at_row k (IsLeft r.keys c.leave_line_in.new.keys c.args.c) at c.leave_line_in.ensures;
    }) c.in_ok-bind.ensures.ok c.bind_shown.ensures _ now
    want c.args.why response (act_list c.args.out.now) (act_list c.put_shown.new.out)
    (is ∙ shows_reported c.args.r head c.args.why c.args.span k lo hi _ response from to c.is_some-ranged.ensures
    (c.in_ok-shown.ensures ∙ ap (λ s. shown_response head c.args.why s c.is_some-ranged.result) c.span_to.ensures)) c.put_shown.ensures)
