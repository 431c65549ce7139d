use Rattle.hc_laws.proofs.{GivesStored.{gives_stored_in_runs}, ReadEnds.{ends_well}, ReadJoined.{bodies_are_read}, ReadNext.{gives_next}}
use Rattle.hc_laws.proofs.laws.one_body_is_read.Goals as goal

pub returns-clause-joined : goal.returns-clause-joined
returns-clause-joined c = bodies_are_read

pub returns-clause-next : goal.returns-clause-next
returns-clause-next c = gives_next

pub returns-clause-ended : goal.returns-clause-ended
returns-clause-ended c = ends_well

pub returns-clause-stored : goal.returns-clause-stored
returns-clause-stored c = gives_stored_in_runs
