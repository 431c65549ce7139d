-- What `carry_out_plan` needs of its calls, and what it answers for each plan over what is current.
--
-- Each plan is that of whatever tables the rows represent. So by `PlanHandlers` and `PartPlans` its consumer may do
-- what the call asks. That is to leave the line, to ask with the turn, to be bound, or to fill a first hole. What the
-- called function answers is what the move of that plan owes. Each answer is one lemma `.._answers`, with the contract
-- of the call; calls that may lack memory are read only where they succeed.
use Rattle.std.proofs.Common.{◌≡◌, ap, ◌∙◌}
use Rattle.hc_effects.proofs.Vocabulary.{act_list, need as needs, plan}
use Rattle.hc_state.specs.Plans.{IsIdle}
use Rattle.hc_on_poll.specs.Ready.{uses_stored}
use Rattle.hc_on_poll.proofs.{PlanHandlers.{passed_current, planned_asks, planned_past, planned_route, may_leave_line, may_queue, may_pass, current_admits, plan_same, direct_answers, turn_answers, fetch_answers, validate_answers, busy_answers, bind_answers, miss_answers}, PartPlans.{filling_passes, filling_hole, filling_alone, filling_answers, part_there}, Polled.{limits_there}}
use Rattle.hc_on_poll.proofs.carry.carry_out_plan.Goals as goal
use Rattle.hc_state.proofs.Words.{ok_then}

pub open_past-requires-clause-leaves : goal.open_past-requires-clause-leaves
open_past-requires-clause-leaves g c = may_leave_line c.args.rows.now c.requires.opens.stands c.args.now c.args.c c.requires.idle

pub open_past-requires-clause-past : goal.open_past-requires-clause-past
open_past-requires-clause-past g c =
    planned_past c.args.rows.now c.requires.opens.stands c.args.now c.args.c c.requires.idle c.in-Direct.need
    (plan_same c.args.rows.now c.args.now c.args.c _ (plan.Direct c.in-Direct.need) c.requires.plan c.in-Direct.is)

pub wait_for_turn-requires-clause-queues : goal.wait_for_turn-requires-clause-queues
wait_for_turn-requires-clause-queues g c = may_queue c.args.rows.now c.requires.opens.stands c.args.now c.args.c c.requires.idle

pub revalidate-requires-clause-asks : goal.revalidate-requires-clause-asks
revalidate-requires-clause-asks g c =
    planned_asks c.args.rows.now c.requires.opens.stands c.args.now c.args.c c.requires.idle c.args.plan c.in-Fetch.need c.requires.plan c.in-Fetch.is

pub bypass-requires-clause-asks : goal.bypass-requires-clause-asks
bypass-requires-clause-asks g c =
    planned_asks c.args.rows.now c.requires.opens.stands c.args.now c.args.c c.requires.idle c.args.plan c.in-Fetch.need c.requires.plan c.in-Fetch.is

pub fetch-requires-clause-asks : goal.fetch-requires-clause-asks
fetch-requires-clause-asks g c =
    planned_asks c.args.rows.now c.requires.opens.stands c.args.now c.args.c c.requires.idle c.args.plan c.in-Fetch.need c.requires.plan c.in-Fetch.is

pub fetch-requires-clause-turns : goal.fetch-requires-clause-turns
fetch-requires-clause-turns g c =
    planned_route c.args.rows.now c.requires.opens.stands c.args.now c.args.c c.requires.idle c.in-Fetch.need
    (plan_same c.args.rows.now c.args.now c.args.c _ (plan.Fetch c.in-Fetch.need) c.requires.plan c.in-Fetch.is)

pub bind-requires-clause-leaves : goal.bind-requires-clause-leaves
bind-requires-clause-leaves g c = may_leave_line c.args.rows.now c.requires.opens.stands c.args.now c.args.c c.requires.idle

pub bind-requires-clause-admits : goal.bind-requires-clause-admits
bind-requires-clause-admits g c =
    let u = c.unwrap-stored.result in
    let now_current = passed_current c.args.rows.now c.args.c c.args.stored u c.unwrap-stored.ensures c.requires.current in
    current_admits c.args.rows.now c.requires.opens.stands c.args.now c.args.c c.requires.idle u.r now_current.current

pub bind-requires-clause-part : goal.bind-requires-clause-part
bind-requires-clause-part g c =
    let u = c.unwrap-stored.result in
    let now_current = passed_current c.args.rows.now c.args.c c.args.stored u c.unwrap-stored.ensures c.requires.current in
    let r = c.args.rows.now in
    part_there r c.requires.opens.stands c.args.now c.args.c c.requires.idle u.r u.head now_current.current now_current.head
    c.in-Bind.why c.in-Bind.span
    (plan_same r c.args.now c.args.c _ (plan.Bind c.in-Bind.why c.in-Bind.span) c.requires.plan c.in-Bind.is)

pub open_first_hole-requires-clause-within_limits : goal.open_first_hole-requires-clause-within_limits
open_first_hole-requires-clause-within_limits g c = limits_there c.args.rows.now c.requires.opens.stands c.args.c IsIdle c.requires.idle

pub open_first_hole-requires-clause-passes : goal.open_first_hole-requires-clause-passes
open_first_hole-requires-clause-passes g c =
    let u = c.unwrap-stored-in-FirstHole.result in
    let now_current = passed_current c.args.rows.now c.args.c c.args.stored u c.unwrap-stored-in-FirstHole.ensures c.requires.current in
    let r = c.args.rows.now in
    filling_passes r c.requires.opens.stands c.args.now c.args.c c.requires.idle u.r u.head now_current.current now_current.head
    c.in-FirstHole.span c.in-FirstHole.hole
    (plan_same r c.args.now c.args.c _ (plan.FirstHole c.in-FirstHole.span c.in-FirstHole.hole) c.requires.plan c.in-FirstHole.is)

pub open_first_hole-requires-clause-admits : goal.open_first_hole-requires-clause-admits
open_first_hole-requires-clause-admits g c =
    let u = c.unwrap-stored-in-FirstHole.result in
    let now_current = passed_current c.args.rows.now c.args.c c.args.stored u c.unwrap-stored-in-FirstHole.ensures c.requires.current in
    let r = c.args.rows.now in
    filling_alone r c.requires.opens.stands c.args.now c.args.c c.requires.idle u.r u.head now_current.current now_current.head
    c.in-FirstHole.span c.in-FirstHole.hole
    (plan_same r c.args.now c.args.c _ (plan.FirstHole c.in-FirstHole.span c.in-FirstHole.hole) c.requires.plan c.in-FirstHole.is)

pub open_first_hole-requires-clause-hole : goal.open_first_hole-requires-clause-hole
open_first_hole-requires-clause-hole g c =
    let u = c.unwrap-stored-in-FirstHole.result in
    let now_current = passed_current c.args.rows.now c.args.c c.args.stored u c.unwrap-stored-in-FirstHole.ensures c.requires.current in
    let r = c.args.rows.now in
    filling_hole r c.requires.opens.stands c.args.now c.args.c c.requires.idle u.r u.head now_current.current now_current.head
    c.in-FirstHole.span c.in-FirstHole.hole
    (plan_same r c.args.now c.args.c _ (plan.FirstHole c.in-FirstHole.span c.in-FirstHole.hole) c.requires.plan c.in-FirstHole.is)

pub wait_for_use-requires-clause-passes : goal.wait_for_use-requires-clause-passes
wait_for_use-requires-clause-passes g c =
    may_pass c.args.rows.now c.requires.opens.stands c.args.now c.args.c c.requires.idle c.in-Busy.d c.in-Busy.kept
    (plan_same c.args.rows.now c.args.now c.args.c _ (plan.Busy c.in-Busy.d c.in-Busy.kept) c.requires.plan c.in-Busy.is)

pub returns-in-Direct-clause-answers : goal.returns-in-Direct-clause-answers
returns-in-Direct-clause-answers g c =
    let r = c.args.rows.now in
    let is = plan_same r c.args.now c.args.c _ (plan.Direct c.in-Direct.need) c.requires.plan c.in-Direct.is in
    ok_then c.open_past.result c.open_past.ensures.answers
    (direct_answers r c.requires.opens.stands c.args.now c.args.c c.requires.idle c.open_past.new.rows (act_list c.args.out.now)
    (act_list c.open_past.new.out) c.in-Direct.need is)

pub returns-in-Turn-clause-answers : goal.returns-in-Turn-clause-answers
returns-in-Turn-clause-answers g c =
    let r = c.args.rows.now in
    let is = plan_same r c.args.now c.args.c _ (plan.Turn c.in-Turn.d) c.requires.plan c.in-Turn.is in
    turn_answers r c.requires.opens.stands c.args.now c.args.c c.requires.idle c.wait_for_turn.new.rows (act_list c.args.out.now)
    (act_list c.wait_for_turn.new.out) c.in-Turn.d is c.wait_for_turn.ensures.answers

pub returns-in-Validate-clause-answers : goal.returns-in-Validate-clause-answers
returns-in-Validate-clause-answers g c =
    let u = c.unwrap.result in
    let now_current = passed_current c.args.rows.now c.args.c c.args.stored u c.unwrap.ensures c.requires.current in
    let r = c.args.rows.now in
    let is = plan_same r c.args.now c.args.c _ (plan.Fetch needs.Validate) c.requires.plan (c.in-Fetch.is ∙ ap plan.Fetch c.in-Validate.is) in
    ok_then c.revalidate.result c.revalidate.ensures.answers
    (validate_answers r c.requires.opens.stands c.args.now c.args.c c.requires.idle c.revalidate.new.rows (act_list c.args.out.now)
    (act_list c.revalidate.new.out) u.r u.head now_current.current now_current.head is)

pub returns-in-Bypass-clause-answers : goal.returns-in-Bypass-clause-answers
returns-in-Bypass-clause-answers g c =
    let r = c.args.rows.now in
    let is = plan_same r c.args.now c.args.c _ (plan.Fetch needs.Bypass) c.requires.plan (c.in-Fetch.is ∙ ap plan.Fetch c.in-Bypass.is) in
    ok_then c.bypass.result c.bypass.ensures.answers
    (fetch_answers r c.requires.opens.stands c.args.now c.args.c c.requires.idle c.bypass.new.rows (act_list c.args.out.now) (act_list c.bypass.new.out)
    needs.Bypass (λ same. let never : needs.Bypass ≡ needs.Validate = same in cc) is)

pub returns-in_default-clause-answers : goal.returns-in_default-clause-answers
returns-in_default-clause-answers g c =
    let r = c.args.rows.now in
    let is = plan_same r c.args.now c.args.c _ (plan.Fetch c.in-Fetch.need) c.requires.plan c.in-Fetch.is in
    ok_then c.fetch.result c.fetch.ensures.answers
    (fetch_answers r c.requires.opens.stands c.args.now c.args.c c.requires.idle c.fetch.new.rows (act_list c.args.out.now) (act_list c.fetch.new.out)
    c.in-Fetch.need c.in_default.not-Validate is)

pub returns-in-Busy-clause-answers : goal.returns-in-Busy-clause-answers
returns-in-Busy-clause-answers g c =
    let r = c.args.rows.now in
    let is = plan_same r c.args.now c.args.c _ (plan.Busy c.in-Busy.d c.in-Busy.kept) c.requires.plan c.in-Busy.is in
    busy_answers r c.requires.opens.stands c.args.now c.args.c c.requires.idle c.wait_for_use.new.rows (act_list c.args.out.now)
    (act_list c.wait_for_use.new.out) c.in-Busy.d c.in-Busy.kept is c.wait_for_use.ensures.answers

pub returns-in-Miss-clause-answers : goal.returns-in-Miss-clause-answers
returns-in-Miss-clause-answers g c =
    let r = c.args.rows.now in
    let is = plan_same r c.args.now c.args.c _ plan.Miss c.requires.plan c.in-Miss.is in
    miss_answers r c.requires.opens.stands c.args.now c.args.c c.requires.idle c.fail.new.rows (act_list c.args.out.now) (act_list c.fail.new.out) is
    c.fail.ensures.answers

pub returns-in-Bind-clause-answers : goal.returns-in-Bind-clause-answers
returns-in-Bind-clause-answers g c =
    let u = c.unwrap-stored.result in
    let now_current = passed_current c.args.rows.now c.args.c c.args.stored u c.unwrap-stored.ensures c.requires.current in
    let r = c.args.rows.now in
    let is = plan_same r c.args.now c.args.c _ (plan.Bind c.in-Bind.why c.in-Bind.span) c.requires.plan c.in-Bind.is in
    ok_then c.bind.result c.bind.ensures.answers
    (bind_answers r c.requires.opens.stands c.args.now c.args.c c.requires.idle c.bind.new.rows (act_list c.args.out.now) (act_list c.bind.new.out)
    c.in-Bind.why c.in-Bind.span u.r u.head now_current.current now_current.head is)

pub returns-in-FirstHole-clause-answers : goal.returns-in-FirstHole-clause-answers
returns-in-FirstHole-clause-answers g c =
    let u = c.unwrap-stored-in-FirstHole.result in
    let now_current = passed_current c.args.rows.now c.args.c c.args.stored u c.unwrap-stored-in-FirstHole.ensures c.requires.current in
    let r = c.args.rows.now in
    let is = plan_same r c.args.now c.args.c _ (plan.FirstHole c.in-FirstHole.span c.in-FirstHole.hole) c.requires.plan c.in-FirstHole.is in
    ok_then c.open_first_hole.result c.open_first_hole.ensures.answers
    (filling_answers r c.requires.opens.stands c.args.now c.args.c c.requires.idle u.r u.head now_current.current now_current.head
    c.in-FirstHole.span c.in-FirstHole.hole is c.open_first_hole.new.rows (act_list c.args.out.now) (act_list c.open_first_hole.new.out))

pub unwrap-requires : goal.unwrap-requires
unwrap-requires g c = c.requires.used (ap uses_stored (c.in-Fetch.is ∙ ap plan.Fetch c.in-Validate.is))

pub unwrap-stored-requires : goal.unwrap-stored-requires
unwrap-stored-requires g c = c.requires.used (ap uses_stored c.in-Bind.is)

pub unwrap-stored-requires-in-FirstHole : goal.unwrap-stored-requires-in-FirstHole
unwrap-stored-requires-in-FirstHole g c = c.requires.used (ap uses_stored c.in-FirstHole.is)

pub unwrap-requires-in-Busy : goal.unwrap-requires-in-Busy
unwrap-requires-in-Busy g c = c.requires.used (ap uses_stored c.in-Busy.is)

pub wait_for_use-requires-clause-current : goal.wait_for_use-requires-clause-current
wait_for_use-requires-clause-current g c =
    let u = c.unwrap-in-Busy.result in
    (passed_current c.args.rows.now c.args.c c.args.stored u c.unwrap-in-Busy.ensures c.requires.current).current

pub bind-requires-clause-current : goal.bind-requires-clause-current
bind-requires-clause-current g c =
    passed_current c.args.rows.now c.args.c c.args.stored c.unwrap-stored.result c.unwrap-stored.ensures c.requires.current

pub open_first_hole-requires-clause-current : goal.open_first_hole-requires-clause-current
open_first_hole-requires-clause-current g c =
    passed_current c.args.rows.now c.args.c c.args.stored c.unwrap-stored-in-FirstHole.result c.unwrap-stored-in-FirstHole.ensures c.requires.current
