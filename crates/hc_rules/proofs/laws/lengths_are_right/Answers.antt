use Rattle.hc_rules.proofs.LengthLaws.{lengths-right}
use Rattle.hc_rules.proofs.laws.lengths_are_right.Goals as goal

pub returns : goal.returns
returns c = lengths-right
