use Rattle.hc_laws.proofs.OneHead.{one_head_is_shown}
use Rattle.hc_laws.proofs.laws.one_head_is_shown.Goals as goal

pub returns : goal.returns
returns c = one_head_is_shown
