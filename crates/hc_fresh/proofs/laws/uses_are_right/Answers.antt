use Rattle.hc_fresh.proofs.UseLaws.{uses-right}
use Rattle.hc_fresh.proofs.laws.uses_are_right.Goals as goal

pub returns : goal.returns
returns c = uses-right
