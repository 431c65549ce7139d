use Rattle.hc_front.proofs.Satisfied.{satisfied_nothing}
use Rattle.hc_front.proofs.laws.satisfied_get_nothing.Goals as goal

pub returns : goal.returns
returns c = satisfied_nothing
