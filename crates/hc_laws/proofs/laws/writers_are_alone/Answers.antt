-- Who writes alone is the only one that is bound.
use Rattle.hc_laws.proofs.AloneRuns.{alone_in_runs}
use Rattle.hc_laws.proofs.laws.writers_are_alone.Goals as goal

pub returns : goal.returns
returns c = alone_in_runs
