use Rattle.hc_state.proofs.StoredKinds.{front_as}
use Rattle.hc_on_leave.proofs.seal.is_prefix.Goals as goal

pub returns-then-entry-gt0 : goal.returns-then-entry-gt0
returns-then-entry-gt0 g c = λ v is_reported. front_as v _ _ is_reported c.covers.result c.if-entry-gt0.true c.covers.ensures
