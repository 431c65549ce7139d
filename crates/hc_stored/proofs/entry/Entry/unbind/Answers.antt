use Rattle.std.proofs.Common.{ap, ◌∙◌}
use Rattle.hc_entry.specs.{ActiveEntries.{used_of}, Used.{Used}}
use Rattle.hc_stored.specs.Rows.{row_by, summary_in}
use Rattle.hc_stored.proofs.UserRows.{ends-as, ends-left, row-left}
use Rattle.hc_stored.proofs.entry.Entry.unbind.Goals as goal

pub invariant_of-self : goal.invariant_of-self
invariant_of-self c =
    let e = c.args.self.now in
    record { within = e.within; stored = ends-as e.reach c.leave.ensures.left (ends-left e.reach c.args.c e.users.way e.stored) }

pub returns-clause-row : goal.returns-clause-row
returns-clause-row c =
    let e = c.args.self.now in
    ap (λ (u : Used). row_by e.key e.slot.n (summary_in e.summary) e.reach u e.gone) c.leave.ensures.left
    ∙ row-left e.key e.slot.n (summary_in e.summary) e.reach e.gone c.args.c (used_of e.users)
