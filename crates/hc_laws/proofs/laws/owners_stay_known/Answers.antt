-- Whose each exchange is stays told.
use Rattle.hc_laws.proofs.OwnersKept.{owners_begun, owners_kept}
use Rattle.hc_laws.proofs.laws.owners_stay_known.Goals as goal

pub returns-clause-begun : goal.returns-clause-begun
returns-clause-begun c = owners_begun

pub returns-clause-kept : goal.returns-clause-kept
returns-clause-kept c = λ limits t now flaw s o event goes stand. owners_kept limits t now flaw s o event goes stand
