-- Who survives goes on alone.
use Rattle.hc_effects.proofs.Survives.{survivors_go_on}
use Rattle.hc_laws.proofs.laws.survivors_go_on.Goals as goal

pub returns : goal.returns
returns c = survivors_go_on
