use Rattle.hc_proxy.proofs.Said.{logs_said}
use Rattle.hc_proxy.proofs.laws.logs_are_as_said.Goals as goal

pub returns : goal.returns
returns c = logs_said
