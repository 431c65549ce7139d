use Rattle.hc_handle.proofs.TextPieces.{texts_as_one, are_replayed, are_refused_alike}
use Rattle.hc_handle.proofs.laws.texts_are_replayed.Goals as goal

pub returns-clause-one : goal.returns-clause-one
returns-clause-one c = texts_as_one

pub returns-clause-replayed : goal.returns-clause-replayed
returns-clause-replayed c = are_replayed

pub returns-clause-refused : goal.returns-clause-refused
returns-clause-refused c = are_refused_alike
