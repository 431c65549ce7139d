-- Waits end.
use Rattle.hc_laws.proofs.ChainRuns.{chains_in_runs}
use Rattle.hc_laws.proofs.laws.chains_of_waits_end.Goals as goal

pub returns : goal.returns
returns c = chains_in_runs
