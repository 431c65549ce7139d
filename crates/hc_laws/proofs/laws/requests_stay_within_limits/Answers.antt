-- A consumer's request is that of its start.
use Rattle.hc_laws.proofs.RunsWithinLimits.{requests_are_within_limits, requests_are_for_targets, heads_come_within_limits}
use Rattle.hc_laws.proofs.laws.requests_stay_within_limits.Goals as goal

pub returns-clause-requests : goal.returns-clause-requests
returns-clause-requests c = requests_are_within_limits

pub returns-clause-targets : goal.returns-clause-targets
returns-clause-targets c = requests_are_for_targets

pub returns-clause-heads : goal.returns-clause-heads
returns-clause-heads c = heads_come_within_limits
