-- Who came alone and rests, rests on.
use Rattle.hc_laws.proofs.RestRuns.{rests_in_runs}
use Rattle.hc_laws.proofs.laws.who_rests_rests_on.Goals as goal

pub returns : goal.returns
returns c = rests_in_runs
