use Rattle.hc_rules.specs.declared.admission.Bound.{Bound}
use Rattle.hc_rules.proofs.LeastFolds.{least_counted}
use Rattle.hc_rules.proofs.admission.least_bound.Goals as goal

pub loop-b-preserved : goal.loop-b-preserved
loop-b-preserved c = least_counted (λ (b : Bound). b.c) c.args.bound.now c.loop-b.b-index _ c.loop-b.least c.lesser-least.result c.loop-b-test.true
    c.loop-b.invariant c.lesser-least.ensures
