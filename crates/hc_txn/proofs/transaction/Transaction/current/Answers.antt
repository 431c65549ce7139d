use Rattle.std.{proofs.Common.{ap, sym, subst}, specs.Prelude.{codes}}
use Rattle.hc_fields.specs.FirstValues.{elements_in}
use Rattle.hc_cachectl.specs.Directives.{IsCapped}
use Rattle.hc_cachectl.proofs.Caps.{capped}
use Rattle.hc_fresh.specs.declared.facts.RequestFacts.{RequestFacts}
use Rattle.hc_txn.proofs.transaction.Transaction.current.Goals as goal

pub allowed_to-requires-clause-capped : goal.allowed_to-requires-clause-capped
allowed_to-requires-clause-capped g c =
    let k = c.args.self.now in
    let all = capped (elements_in (codes "cache-control") k.request.fields) in
    subst IsCapped (sym (ap (λ (f : RequestFacts). f.directives) k.reported))
    (record { max_age = all.max_age; min_fresh = all.min_fresh; max_stale = all.max_stale })
