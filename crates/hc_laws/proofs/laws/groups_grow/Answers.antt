-- Writings grow by what their exchanges bring.
use Rattle.hc_laws.proofs.GrowingKeeps.{growing_kept}
use Rattle.hc_laws.proofs.laws.groups_grow.Goals as goal
use Rattle.hc_effects.proofs.Step.{step_of}

pub returns : goal.returns
returns c = λ limits t now flaw s o m event goes stand. growing_kept (step_of limits t now flaw s o event goes) m stand
