use Rattle.std.proofs.Common.{◌≡◌, ◌+◌, sym, refl, subst, arith}
use Rattle.hc_effects.proofs.Vocabulary.{Event, IsEventWithinLimits, failures_in, received_in}
use Rattle.hc_core.specs.Steps.{Answers, bytes_received}
use Rattle.hc_fetch.specs.{declared.plan.FetchPlan.{FetchPlan}, Hearing.{Starts}, Plans.{part_start}}
use Rattle.hc_fetch.proofs.{Asked.{part_within}, Starting.{starts_next, all_starts, few_parts, none_counted}}
use Rattle.hc_fetch.proofs.fetching.Fetching.start_others.Goals as goal

pub step-requires-clause-within_limits : goal.step-requires-clause-within_limits
step-requires-clause-within_limits g c =
    let under = c.loop-part-test.true in
    let few = few_parts c.args.self.now.plan c.args.total c.args.self.now.planned.parts in
    let count = c.part_count-count.ensures in
    subst IsEventWithinLimits (sym c.in_ok-start.ensures)
    (part_within c.loop-part.self.plan c.args.total c.loop-part.part c.loop-part.self.planned c.requires.total (omega (arith, under, few, count)))

pub loop-part-preserved : goal.loop-part-preserved
loop-part-preserved g c =
    let count = c.part_count-count.ensures in
    let few = few_parts c.args.self.now.plan c.args.total c.args.self.now.planned.parts in
    let step = c.in_ok-step.ensures in
    let answered = step.answered.answered in
    let event = c.in_ok-start.ensures in
    let came = subst (λ (ev : Event). bytes_received c.step.new.self ≡ bytes_received c.loop-part.self.cache + received_in ev) event step.received in
    starts_next c.args.self.now c.loop-part.self _ c.args.now c.args.total c.part_count-count.result c.loop-part.part step.answered.acts
    c.loop-part.invariant c.loop-part-test.true (omega (arith, few, count))
    (record { plan = refl; moment = refl; count = refl; first = refl; ended = refl; gathered = refl; decided = refl; limits = answered.limits })
    (subst (λ (p : FetchPlan). Answers c.loop-part.self.cache c.step.new.self c.args.now (part_start p c.args.total c.loop-part.part) step.answered.acts)
    c.loop-part.invariant.rest.plan
    (subst (λ (ev : Event). Answers c.loop-part.self.cache c.step.new.self c.args.now ev step.answered.acts) event answered))
    (none_counted c.loop-part.self.cache c.step.new.self (failures_in step.answered.acts) answered.counted) step.moment (omega (arith, came))

pub returns : goal.returns
returns g c =
    let count = c.part_count-count.ensures in
    let few = few_parts c.args.self.now.plan c.args.total c.args.self.now.planned.parts in
    subst (Starts c.args.self.now c.loop-part.self c.args.now c.args.total) count
    (all_starts c.args.self.now c.loop-part.self c.args.now c.args.total c.part_count-count.result c.loop-part.part c.loop-part.invariant
    (omega (arith, few, count)) c.loop-part-test.false)
