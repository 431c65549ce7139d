-- Each open exchange is somebody's.
use Rattle.hc_laws.proofs.WhoseRuns.{whose_in_runs}
use Rattle.hc_laws.proofs.laws.exchanges_are_somebodys.Goals as goal

pub returns : goal.returns
returns c = whose_in_runs
