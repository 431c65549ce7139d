-- What is called truncated is a front, in every run.
use Rattle.hc_laws.proofs.TruthRuns.{truncated_is, truth_in_runs}
use Rattle.hc_laws.proofs.laws.truncated_is_a_prefix.Goals as goal

pub returns-clause-front : goal.returns-clause-front
returns-clause-front c = truncated_is

pub returns-clause-runs : goal.returns-clause-runs
returns-clause-runs c = truth_in_runs
