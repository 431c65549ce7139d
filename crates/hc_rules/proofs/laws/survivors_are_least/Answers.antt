use Rattle.hc_rules.proofs.LeastLaws.{survivors-least}
use Rattle.hc_rules.proofs.laws.survivors_are_least.Goals as goal

pub returns : goal.returns
returns c = survivors-least
