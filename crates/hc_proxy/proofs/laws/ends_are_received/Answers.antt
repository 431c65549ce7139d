use Rattle.hc_proxy.proofs.Received.{ends_are_received}
use Rattle.hc_proxy.proofs.laws.ends_are_received.Goals as goal

pub returns : goal.returns
returns c = ends_are_received
