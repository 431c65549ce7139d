use Rattle.hc_rules.proofs.CaseLaws.{cases-right}
use Rattle.hc_rules.proofs.laws.cases_are_right.Goals as goal

pub returns : goal.returns
returns c = cases-right
