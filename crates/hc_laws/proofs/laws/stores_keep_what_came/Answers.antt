use Rattle.hc_laws.proofs.StoreKeeps.{stores_are_kept}
use Rattle.hc_laws.proofs.laws.stores_keep_what_came.Goals as goal

pub returns : goal.returns
returns c = stores_are_kept
