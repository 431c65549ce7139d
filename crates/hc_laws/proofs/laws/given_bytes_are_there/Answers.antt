-- What a reader was given is there.
use Rattle.hc_laws.proofs.GivenRuns.{given_in_runs}
use Rattle.hc_laws.proofs.laws.given_bytes_are_there.Goals as goal

pub returns : goal.returns
returns c = given_in_runs
