use Rattle.std.proofs.Common.{◌≡◌, ◌+◌, sym, refl, subst, arith}
use Rattle.hc_effects.proofs.Vocabulary.{Event, IsEventWithinLimits, failures_in, received_in}
use Rattle.hc_core.specs.Steps.{Answers, bytes_received}
use Rattle.hc_fetch.proofs.{Asked.{first_within}, Starting.{begins_none, begins_one, none_came, none_counted}}
use Rattle.hc_fetch.proofs.fetching.Fetching.begin.Goals as goal

pub returns-then-self-gt1 : goal.returns-then-self-gt1
returns-then-self-gt1 g c = begins_none c.args.self.now c.args.now c.if-self-gt1.true c.requires.later c.requires.few

pub step-requires-clause-within_limits : goal.step-requires-clause-within_limits
step-requires-clause-within_limits g c = subst IsEventWithinLimits (sym c.in_ok-start.ensures) (first_within c.args.self.now.plan c.args.self.now.planned)

pub returns : goal.returns
returns g c =
    let some = c.requires.count.0 in
    let few = c.if-self-gt1.false in
    let step = c.in_ok-step.ensures in
    let answered = step.answered.answered in
    let came = subst (λ (ev : Event). bytes_received c.step.new.self ≡ bytes_received c.args.self.now.cache + received_in ev) c.in_ok-start.ensures
    step.received in
    begins_one c.args.self.now _ c.args.now step.answered.acts (omega (arith, some, few)) c.requires.few
    (record { plan = refl; moment = refl; count = refl; first = refl; ended = refl; gathered = refl; decided = refl; limits = answered.limits })
    (subst (λ (ev : Event). Answers c.args.self.now.cache c.step.new.self c.args.now ev step.answered.acts) c.in_ok-start.ensures answered)
    (none_counted c.args.self.now.cache c.step.new.self (failures_in step.answered.acts) answered.counted) step.moment (none_came _ _ came)
