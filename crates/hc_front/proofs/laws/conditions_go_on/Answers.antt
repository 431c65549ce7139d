use Rattle.hc_front.proofs.GoesPast.{conditions_on}
use Rattle.hc_front.proofs.laws.conditions_go_on.Goals as goal

pub returns : goal.returns
returns c = conditions_on
