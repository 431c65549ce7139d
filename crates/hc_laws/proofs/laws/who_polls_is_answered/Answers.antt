-- Who polls is told one thing at most.
use Rattle.hc_laws.proofs.WhoIsAnswered.{reported_in_runs}
use Rattle.hc_laws.proofs.laws.who_polls_is_answered.Goals as goal

pub returns : goal.returns
returns c = reported_in_runs
