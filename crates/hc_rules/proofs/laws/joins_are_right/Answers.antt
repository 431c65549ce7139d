use Rattle.hc_rules.proofs.JoinLaws.{joins-right}
use Rattle.hc_rules.proofs.laws.joins_are_right.Goals as goal

pub returns : goal.returns
returns c = joins-right
