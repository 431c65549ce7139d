-- When an exchange is asked.
use Rattle.hc_laws.proofs.AskedRuns.{asks_anew_in_runs}
use Rattle.hc_laws.proofs.laws.exchanges_are_asked_anew.Goals as goal

pub returns : goal.returns
returns c = asks_anew_in_runs
