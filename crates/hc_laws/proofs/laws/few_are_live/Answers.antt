-- Few are live.
use Rattle.hc_laws.proofs.LiveRuns.{few_in_runs}
use Rattle.hc_laws.proofs.laws.few_are_live.Goals as goal

pub returns : goal.returns
returns c = few_in_runs
