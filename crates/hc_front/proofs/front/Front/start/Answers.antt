use Rattle.std.proofs.Common.{refl, sym, ◌∙◌}
use Rattle.hc_front.proofs.FrontPaths.{on_four, started_at}
use Rattle.hc_front.proofs.front.Front.start.Goals as goal

pub returns-clause-stepped : goal.returns-clause-stepped
returns-clause-stepped g c =
    on_four c.step.result c.step.ensures.answered c.step.ensures.moment c.step.ensures.ready c.step.ensures.received
    (λ q moment ready received.
    started_at c.args.self.now _ c.args.now _ _ c.args.event.now c.args.c c.args.request.now c.requires.is q moment ready received refl
    (λ contents h stands. sym (c.in_ok-watched.ensures contents h stands) ∙ c.if-watched.false))
