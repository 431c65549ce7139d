-- One exchange at most brings a representation.
use Rattle.hc_laws.proofs.GrowingRuns.{growing_in_runs, stops_in_runs}
use Rattle.hc_laws.proofs.laws.one_exchange_brings_it.Goals as goal

pub returns-clause-runs : goal.returns-clause-runs
returns-clause-runs c = growing_in_runs

pub returns-clause-stops : goal.returns-clause-stops
returns-clause-stops c = stops_in_runs
