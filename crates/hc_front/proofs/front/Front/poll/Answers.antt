use Rattle.std.{proofs.Common.{List, refl, sym, ap, ◌∙◌, subst}, specs.Prelude.{OnOk, Option}}
use Rattle.hc_effects.proofs.Vocabulary.{act_list, Act, Event}
use Rattle.hc_core.specs.Steps as core
use Rattle.hc_front.specs.{declared.watches.Watched.{Watched}, Fronts.{is_ending}, Steps.{HasStepped}}
use Rattle.hc_front.proofs.FrontPaths.{on_four, polled_at, settled_at}
use Rattle.hc_front.proofs.front.Front.poll.Goals as goal

pub returns-in_default-clause-stepped : goal.returns-in_default-clause-stepped
returns-in_default-clause-stepped g c =
    on_four c.step.result c.step.ensures.answered c.step.ensures.moment c.step.ensures.ready c.step.ensures.received
    (λ q moment ready received. polled_at c.args.self.now _ c.args.now _ _ c.args.event.now c.args.c c.args.want c.requires.is q moment ready received
    refl (sym c.in_default.ensures))

pub end-requires-clause-ending : goal.end-requires-clause-ending
end-requires-clause-ending g c = ap (λ (o : Option Watched). is_ending o c.args.want) (sym c.in-Some.ensures) ∙ sym c.is_ending.ensures ∙ c.if-is_ending.true

pub returns-then-is_ending-clause-stepped : goal.returns-then-is_ending-clause-stepped
returns-then-is_ending-clause-stepped g c =
    subst (λ (z : Event). OnOk c.end.result (HasStepped c.args.self.now c.end.new.self (act_list c.args.out.now) (act_list c.end.new.out) c.args.now z))
    (sym c.requires.is) c.end.ensures.stepped

pub returns-clause-stepped : goal.returns-clause-stepped
returns-clause-stepped g c =
    let q = subst (λ (l : List Act). core.Steps c.args.self.now.cache c.step-2.new.self l (act_list c.step-2.new.out) c.args.now c.args.event.now)
    c.clear.ensures.acts c.in_ok-step.ensures.answered in
    let ending = ap (λ (o : Option Watched). is_ending o c.args.want) (sym c.in-Some.ensures) ∙ sym c.is_ending.ensures ∙ c.if-is_ending.false in
    settled_at c.args.self.now _ c.args.now _ _ c.args.event.now c.args.c c.args.want c.requires.is (act_list c.step-2.new.out) q
    c.in_ok-step.ensures.moment c.in_ok-step.ensures.ready c.in_ok-step.ensures.received
    c.in-Some.watched.now c.in_ok-reported.ensures.reported (sym c.in-Some.ensures) ending
    c.leaves_in-leaves.result c.in_ok-reported.reported c.list.result.now c.list.ensures c.leaves_in-leaves.ensures c.in_ok-reported.ensures.satisfied
    c.settle.ensures
