-- No more exchanges are open than consumers are live.
use Rattle.hc_laws.proofs.OpenRuns.{open_in_runs}
use Rattle.hc_laws.proofs.laws.few_are_open.Goals as goal

pub returns : goal.returns
returns c = open_in_runs
