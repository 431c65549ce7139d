use Rattle.hc_effects.proofs.CurrentKeeps.{one_current_is_kept}
use Rattle.hc_laws.proofs.laws.one_is_current.Goals as goal

pub returns : goal.returns
returns c = one_current_is_kept
