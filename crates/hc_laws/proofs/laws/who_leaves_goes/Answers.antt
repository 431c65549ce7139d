-- Who leaves is over, and all others are as live as they were.
use Rattle.hc_effects.proofs.Vocabulary.{tables}
use Rattle.hc_laws.proofs.{LawfulRuns.{lawful_in_runs}, LeaverGoes.{leaver_goes}}
use Rattle.hc_laws.proofs.laws.who_leaves_goes.Goals as goal

pub returns : goal.returns
returns c = λ limits contents h may run.
    leaver_goes limits (tables contents h) (lawful_in_runs limits contents h may run)
