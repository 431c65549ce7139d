use Rattle.hc_validate.proofs.Names.{IsToken-age}
use Rattle.hc_validate.proofs.showing.add_age.Goals as goal

pub set_number-requires-clause-name : goal.set_number-requires-clause-name
set_number-requires-clause-name c = IsToken-age
