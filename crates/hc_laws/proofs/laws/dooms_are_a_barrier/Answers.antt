-- What isn't gone stands behind the last doom of its key, and what shows this is kept.
use Rattle.hc_laws.proofs.{Barred.{barrier_is_kept, barrier_begins}, InRuns.{dooms_in_runs, binds_in_runs}}
use Rattle.hc_laws.proofs.laws.dooms_are_a_barrier.Goals as goal

pub returns-clause-kept : goal.returns-clause-kept
returns-clause-kept c = barrier_is_kept

pub returns-clause-begin : goal.returns-clause-begin
returns-clause-begin c = barrier_begins

pub returns-clause-runs : goal.returns-clause-runs
returns-clause-runs c = dooms_in_runs

pub returns-clause-binds : goal.returns-clause-binds
returns-clause-binds c = binds_in_runs
