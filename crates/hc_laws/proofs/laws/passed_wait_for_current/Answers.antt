-- Who was let through waits for what is current.
use Rattle.hc_laws.proofs.PassedRuns.{passed_in_runs}
use Rattle.hc_laws.proofs.laws.passed_wait_for_current.Goals as goal

pub returns : goal.returns
returns c = passed_in_runs
