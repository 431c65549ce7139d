use Rattle.hc_rules.proofs.StepLaws.{steps-right}
use Rattle.hc_rules.proofs.laws.steps_are_right.Goals as goal

pub returns : goal.returns
returns c = steps-right
