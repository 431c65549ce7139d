use Rattle.hc_rules.proofs.PlanLaws.{plans-right}
use Rattle.hc_rules.proofs.laws.plans_are_right.Goals as goal

pub returns : goal.returns
returns c = plans-right
