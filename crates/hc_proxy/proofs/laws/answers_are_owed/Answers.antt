use Rattle.hc_proxy.proofs.ClientTurns.{answers_are_owed}
use Rattle.hc_proxy.proofs.laws.answers_are_owed.Goals as goal

pub returns : goal.returns
returns c = answers_are_owed
