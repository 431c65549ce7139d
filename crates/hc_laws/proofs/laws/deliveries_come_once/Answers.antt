-- What is sound delivers once, and what shows this is kept.
use Rattle.hc_laws.proofs.{GrowsInRuns.{bodies_grow_in_runs}, InRuns.{delivers_in_runs}, StoresGrow.{stores_grow_in_runs}}
use Rattle.hc_effects.proofs.{Once.{delivers_once}, Stays.{bodies_are_kept}, EventsKeep.{deliveries_are_kept}}
use Rattle.hc_laws.proofs.laws.deliveries_come_once.Goals as goal

pub returns-clause-once : goal.returns-clause-once
returns-clause-once c = delivers_once

pub returns-clause-kept : goal.returns-clause-kept
returns-clause-kept c = deliveries_are_kept

pub returns-clause-stay : goal.returns-clause-stay
returns-clause-stay c = bodies_are_kept

pub returns-clause-runs : goal.returns-clause-runs
returns-clause-runs c = delivers_in_runs

pub returns-clause-grow : goal.returns-clause-grow
returns-clause-grow c = bodies_grow_in_runs

pub returns-clause-stored : goal.returns-clause-stored
returns-clause-stored c = stores_grow_in_runs
