use Rattle.std.proofs.Common.{ap}
use Rattle.hc_entry.specs.Used.{Used}
use Rattle.hc_stored.specs.Rows.{row_by, summary_in}
use Rattle.hc_stored.proofs.UserRows.{ends-as}
use Rattle.hc_stored.proofs.entry.Entry.lose.Goals as goal

pub invariant_of-self : goal.invariant_of-self
invariant_of-self c =
    let e = c.args.self.now in
    record { within = e.within; stored = ends-as e.reach c.lose.ensures tt }

pub returns : goal.returns
returns c =
    let e = c.args.self.now in
    ap (λ (u : Used). row_by e.key e.slot.n (summary_in e.summary) e.reach u e.gone) c.lose.ensures
