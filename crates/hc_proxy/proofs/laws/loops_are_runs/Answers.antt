use Rattle.hc_proxy.proofs.Stands.{loops_are_runs}
use Rattle.hc_proxy.proofs.laws.loops_are_runs.Goals as goal

pub returns : goal.returns
returns c = loops_are_runs
