use Rattle.hc_proxy.proofs.ClientTurns.{starts_are_asked}
use Rattle.hc_proxy.proofs.laws.starts_are_asked.Goals as goal

pub returns : goal.returns
returns c = starts_are_asked
