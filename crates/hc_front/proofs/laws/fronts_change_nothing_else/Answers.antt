use Rattle.hc_front.proofs.FrontLaws.{plain_else}
use Rattle.hc_front.proofs.laws.fronts_change_nothing_else.Goals as goal

pub returns : goal.returns
returns c = plain_else
