use Rattle.hc_state.proofs.StoredKinds.{complete_as}
use Rattle.hc_on_leave.proofs.seal.is_complete.Goals as goal

pub returns-in-Some : goal.returns-in-Some
returns-in-Some g c = λ v is_reported. complete_as v _ _ is_reported c.covers.result c.in-Some.total c.in-Some.is c.covers.ensures
