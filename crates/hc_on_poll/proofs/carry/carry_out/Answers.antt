-- What `carry_out` needs of its calls, and what it answers by the plan of its consumer.
--
-- Its plan is that of whatever tables the rows represent: without what is current by `unlooked_plan`, and else by
-- `some_plan_at`. What is looked at is current for its key (`looked_current`). Its head is read between, which keeps the
-- rows but for the count of faults. So what they represent stays (`read_some`, `read_current`), and what is answered then is
-- answered (`read_answers`). Where it can't be read, `misread_by` answers.
use Rattle.std.{proofs.{Common.{Some, nat_eq, ap, subst, sym, ◌∙◌, ◌≡◌}, Math.Logic.{∥∥₁_map}}, specs.HashMap.{get}}
use Rattle.hc_text.proofs.Basics.{false_true}
use Rattle.hc_effects.proofs.Vocabulary.{PlanView, act_list, candidate}
use Rattle.hc_record.specs.Plain.{plain}
use Rattle.hc_state.specs.{Candidates.{DecidesOn}, Kept.{KeepsConsumer}, Plans.{IsIdle, HasCurrent}}
use Rattle.hc_state.proofs.{Maps.{known_of, lent, some_that}, Words.{ok_then, on_ok_two}}
use Rattle.hc_on_poll.specs.Ready.{uses_stored}
use Rattle.hc_on_poll.proofs.{PlanHandlers.{bare_uses, unlooked_plan, some_plan_at, looked_current, current_kept, fault_only, read_current, read_until, read_some, read_answers, read_fault}, Deciding.{decided}}
use Rattle.hc_on_poll.proofs.carry.carry_out.Goals as goal

pub carry_out_plan-requires-clause-opens : goal.carry_out_plan-requires-clause-opens
carry_out_plan-requires-clause-opens g c = record { stands = ∥∥₁_map c.requires.stands (λ u. u.0); few = c.requires.few }

pub carry_out_plan-requires-clause-plan : goal.carry_out_plan-requires-clause-plan
carry_out_plan-requires-clause-plan g c = λ limits t v facts stands row.
    let r = c.args.rows.now in
    let at_row = get nat_eq r.consumers c.args.c in
    let k = c.unwrap-consumer.result.now in
    let at = lent c.get.result at_row c.unwrap-consumer.result c.get.ensures.value c.unwrap-consumer.ensures in
    let kept = subst (KeepsConsumer t (Some k)) row (subst (λ o. KeepsConsumer t o (t.consumer c.args.c)) at (stands.consumers c.args.c)) in
    unlooked_plan r t facts stands c.args.c k v row kept (known_of at_row k IsIdle at c.requires.idle) c.args.now c.look_up-looked.result.view
    c.look_up-looked.ensures.view c.look_up-looked.result.current c.look_up-looked.ensures.current c.in_default.is ∙ sym c.plan_of.ensures

pub carry_out_plan-requires-clause-used : goal.carry_out_plan-requires-clause-used
carry_out_plan-requires-clause-used g c = λ on.
    let view = c.look_up-looked.result.view in
    let bare = bare_uses view (ap (λ (z : PlanView). z.current) c.look_up-looked.ensures.view) in
    false_true (sym (ap uses_stored c.plan_of.ensures ∙ bare) ∙ on)

pub head-requires : goal.head-requires
head-requires g c =
    let r = c.args.rows.now in
    let at_row = get nat_eq r.consumers c.args.c in
    let k = c.unwrap-consumer.result.now in
    let at = lent c.get.result at_row c.unwrap-consumer.result c.get.ensures.value c.unwrap-consumer.ensures in
    current_kept r (∥∥₁_map c.requires.stands (λ u. u.0)) c.args.now c.args.c c.requires.idle c.in-Some.r
    (some_that at_row k (HasCurrent r.keys c.in-Some.r) at
    (looked_current k r.keys c.look_up-looked.result.view c.look_up-looked.result.current c.in-Some.r c.look_up-looked.ensures.current c.in-Some.is))

pub decide-plan-requires-clause-stands : goal.decide-plan-requires-clause-stands
decide-plan-requires-clause-stands g c = read_until c.args.rows.now c.head.new.self c.head.ensures.same c.args.now c.requires.stands

pub decide-plan-requires-clause-current : goal.decide-plan-requires-clause-current
decide-plan-requires-clause-current g c =
    let r = c.args.rows.now in
    let at_row = get nat_eq r.consumers c.args.c in
    let k = c.unwrap-consumer.result.now in
    let at = lent c.get.result at_row c.unwrap-consumer.result c.get.ensures.value c.unwrap-consumer.ensures in
    read_current r c.head.new.self c.head.ensures.same c.args.c c.in-Some.r (plain c.in-Ok.head)
    (some_that at_row k (HasCurrent r.keys c.in-Some.r) at
    (looked_current k r.keys c.look_up-looked.result.view c.look_up-looked.result.current c.in-Some.r c.look_up-looked.ensures.current c.in-Some.is))
    c.in-Ok.ensures.head

pub carry_out_plan-requires-in-Ok-clause-opens : goal.carry_out_plan-requires-in-Ok-clause-opens
carry_out_plan-requires-in-Ok-clause-opens g c =
    record { stands = read_some c.args.rows.now c.head.new.self c.head.ensures.same c.args.now c.requires.stands; few = c.requires.few }

pub carry_out_plan-requires-in-Ok-clause-plan : goal.carry_out_plan-requires-in-Ok-clause-plan
carry_out_plan-requires-in-Ok-clause-plan g c = λ limits t v facts stands row.
    let r = c.args.rows.now in
    let at_row = get nat_eq r.consumers c.args.c in
    let k = c.unwrap-consumer.result.now in
    let at = lent c.get.result at_row c.unwrap-consumer.result c.get.ensures.value c.unwrap-consumer.ensures in
    let kept = subst (KeepsConsumer t (Some k)) row (subst (λ o. KeepsConsumer t o (t.consumer c.args.c)) at (stands.consumers c.args.c)) in
    let held = looked_current k r.keys c.look_up-looked.result.view c.look_up-looked.result.current c.in-Some.r c.look_up-looked.ensures.current c.in-Some.is in
    let view = c.look_up-looked.result.view in
    let read = record r { entries = c.head.new.self } in
    let plan = c.decide-plan.result in
    some_plan_at read t facts stands c.args.c k v row kept (known_of at_row k IsIdle at c.requires.idle) c.args.now view c.look_up-looked.ensures.view
    c.in-Some.r held plan (λ p here.
    known_of at_row k (DecidesOn read c.args.now c.args.c view.turn c.in-Some.r plan) at c.decide-plan.ensures _ t v p facts stands row here
    ∙ decided r c.args.now c.args.c k view c.look_up-looked.ensures.view (candidate t c.args.now c.in-Some.r v.request p))

pub carry_out_plan-requires-in-Ok-clause-current : goal.carry_out_plan-requires-in-Ok-clause-current
carry_out_plan-requires-in-Ok-clause-current g c =
    let r = c.args.rows.now in
    let at_row = get nat_eq r.consumers c.args.c in
    let k = c.unwrap-consumer.result.now in
    let at = lent c.get.result at_row c.unwrap-consumer.result c.get.ensures.value c.unwrap-consumer.ensures in
    read_current r c.head.new.self c.head.ensures.same c.args.c c.in-Some.r (plain c.in-Ok.head)
    (some_that at_row k (HasCurrent r.keys c.in-Some.r) at
    (looked_current k r.keys c.look_up-looked.result.view c.look_up-looked.result.current c.in-Some.r c.look_up-looked.ensures.current c.in-Some.is))
    c.in-Ok.ensures.head

pub misread_by-requires-clause-stands : goal.misread_by-requires-clause-stands
misread_by-requires-clause-stands g c = read_some c.args.rows.now c.head.new.self c.head.ensures.same c.args.now c.requires.stands

pub returns-in-Ok-clause-answers : goal.returns-in-Ok-clause-answers
returns-in-Ok-clause-answers g c =
    ok_then c.carry_out_plan-in-Ok.result c.carry_out_plan-in-Ok.ensures.answers
    (read_answers c.args.rows.now c.head.new.self c.head.ensures.same c.head.ensures.cause.later c.carry_out_plan-in-Ok.new.rows (act_list c.args.out.now)
    (act_list c.carry_out_plan-in-Ok.new.out) c.args.now c.args.c)

pub returns-in-Err-clause-answers : goal.returns-in-Err-clause-answers
returns-in-Err-clause-answers g c =
    let r = c.args.rows.now in
    let at_row = get nat_eq r.consumers c.args.c in
    let k = c.unwrap-consumer.result.now in
    let at = lent c.get.result at_row c.unwrap-consumer.result c.get.ensures.value c.unwrap-consumer.ensures in
    on_ok_two c.misread_by.result c.misread_by.ensures.failed c.misread_by.ensures.answers (λ other.
    read_fault r c.head.new.self c.head.ensures.same
    (c.head.ensures.cause.fault (fault_only c.head.result c.in-Err.error c.in-Err.is c.head.ensures.no_limit other))
    c.misread_by.new.rows (act_list c.args.out.now) (act_list c.misread_by.new.out) c.args.now c.args.c c.in-Some.r c.requires.idle
    (some_that at_row k (HasCurrent r.keys c.in-Some.r) at
    (looked_current k r.keys c.look_up-looked.result.view c.look_up-looked.result.current c.in-Some.r c.look_up-looked.ensures.current c.in-Some.is)))
