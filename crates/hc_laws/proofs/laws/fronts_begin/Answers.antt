use Rattle.hc_laws.proofs.FrontRuns.{fronts_in_runs}
use Rattle.hc_laws.proofs.laws.fronts_begin.Goals as goal

pub returns : goal.returns
returns c = fronts_in_runs
