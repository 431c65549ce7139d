-- What is held for the detached reader.
use Rattle.hc_laws.proofs.{BringsRuns.{brings_in_runs}, LossRuns.{losses_in_runs}}
use Rattle.hc_laws.proofs.laws.losses_are_held.Goals as goal

pub returns-clause-brings : goal.returns-clause-brings
returns-clause-brings c = brings_in_runs

pub returns-clause-held : goal.returns-clause-held
returns-clause-held c = losses_in_runs
