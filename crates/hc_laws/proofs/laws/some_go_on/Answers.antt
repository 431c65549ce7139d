-- Who has the turn, who is bound, and that no wait goes in a circle.
use Rattle.hc_laws.proofs.{Going.{turns_go, readers_go}, WaitsInRuns.{waits_in_runs}}
use Rattle.hc_laws.proofs.laws.some_go_on.Goals as goal

pub returns-clause-turn : goal.returns-clause-turn
returns-clause-turn c = turns_go

pub returns-clause-reader : goal.returns-clause-reader
returns-clause-reader c = readers_go

pub returns-clause-runs : goal.returns-clause-runs
returns-clause-runs c = waits_in_runs
