use Rattle.hc_laws.proofs.Truthful.{whole_is}
use Rattle.hc_laws.proofs.laws.whole_is_whole.Goals as goal

pub returns : goal.returns
returns c = whole_is
