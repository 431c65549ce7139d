-- Numbers stay small.
use Rattle.hc_laws.proofs.NumberRuns.{numbers_in_runs}
use Rattle.hc_laws.proofs.laws.numbers_stay_small.Goals as goal

pub returns : goal.returns
returns c = numbers_in_runs
