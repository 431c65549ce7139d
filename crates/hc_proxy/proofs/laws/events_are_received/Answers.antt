use Rattle.hc_proxy.proofs.Received.{events_are_received}
use Rattle.hc_proxy.proofs.laws.events_are_received.Goals as goal

pub returns : goal.returns
returns c = events_are_received
