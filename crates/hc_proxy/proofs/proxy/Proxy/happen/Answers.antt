use Rattle.std.proofs.Common.{refl, true}
use Rattle.hc_proxy.proofs.{EventComes.{same_some, same_step}, Outcomes.{on_both}}
use Rattle.hc_proxy.proofs.proxy.Proxy.happen.Goals as goal

pub step-requires-clause-stands : goal.step-requires-clause-stands
step-requires-clause-stands g c = same_some c.args.self.now _ refl refl refl refl refl c.requires.stands

pub returns-clause-stepped : goal.returns-clause-stepped
returns-clause-stepped g c = on_both c.step.result _ _ c.step.ensures.stepped (λ st. same_step c.args.self.now c.step.new.self true c.args.event st)
