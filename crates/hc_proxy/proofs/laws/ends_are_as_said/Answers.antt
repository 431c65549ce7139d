use Rattle.hc_proxy.proofs.Said.{ends_said}
use Rattle.hc_proxy.proofs.laws.ends_are_as_said.Goals as goal

pub returns : goal.returns
returns c = ends_said
