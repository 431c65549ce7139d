-- The class of a transaction is that of the request that the tables have.
use Rattle.std.proofs.Common.{◌≡◌, ap, ◌∙◌}
use Rattle.hc_rules.specs.Requests.{class_of}
use Rattle.hc_model.specs.Rows as rows
use Rattle.hc_model.specs.Rows.{Tables}
use Rattle.hc_state.specs.Kept.{IsKept}
use Rattle.hc_txn.specs.declared.transaction.Transaction.{Transaction}

pub class_is : {t : Tables} {k : Transaction} {v : rows.Consumer} → IsKept t k v → k.class ≡ class_of v.request
class_is {k = k} kept = k.classed ∙ ap class_of kept.request
