-- Where an answer past the store ends is known once it is over without a failure, and the detached reader is still fed
-- until its end is known.
use Rattle.hc_laws.proofs.{PlaceRuns.{endings_in_runs}, UnendedRuns.{unended_in_runs}}
use Rattle.hc_laws.proofs.laws.endings_are_known.Goals as goal

pub returns-clause-past : goal.returns-clause-past
returns-clause-past c = endings_in_runs

pub returns-clause-alone : goal.returns-clause-alone
returns-clause-alone c = unended_in_runs
