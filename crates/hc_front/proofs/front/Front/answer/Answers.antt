use Rattle.std.proofs.Common.{refl}
use Rattle.hc_front.proofs.FrontPaths.{on_four, has_passed, cancelled_at}
use Rattle.hc_front.proofs.front.Front.answer.Goals as goal

pub returns-in_ok-step-in-Cancel-clause-stepped : goal.returns-in_ok-step-in-Cancel-clause-stepped
returns-in_ok-step-in-Cancel-clause-stepped g c =
    let s = c.in_ok-step-in-Cancel.ensures in
    cancelled_at c.args.self.now _ c.args.now _ _ c.args.event.now c.in-Cancel.c c.in-Cancel.is s.answered s.moment s.ready s.received c.forget.ensures

pub returns-in_default-clause-stepped : goal.returns-in_default-clause-stepped
returns-in_default-clause-stepped g c =
    on_four c.step-in_default.result c.step-in_default.ensures.answered c.step-in_default.ensures.moment c.step-in_default.ensures.ready
    c.step-in_default.ensures.received
    (λ q moment ready received. has_passed c.args.self.now _ c.args.now _ _ c.args.event.now moment received ready q refl c.in_default.not-Start
    c.in_default.not-Poll c.in_default.not-Cancel)
