use Rattle.std.proofs.Common.{ap, ◌∙◌}
use Rattle.hc_entry.specs.{ActiveEntries.{used_of}, Used.{Used, group_in}}
use Rattle.hc_stored.specs.Rows.{row_by, summary_in}
use Rattle.hc_stored.proofs.UserRows.{ends-as, ends-moved, group-moved, row-moved}
use Rattle.hc_stored.proofs.entry.Entry.set_offset.Goals as goal

pub invariant_of-self : goal.invariant_of-self
invariant_of-self c =
    let e = c.args.self.now in
    record { within = e.within; stored = ends-as e.reach c.set_offset.ensures (ends-moved e.reach c.args.c c.args.offset e.users.way e.stored) }

pub returns-clause-row : goal.returns-clause-row
returns-clause-row c =
    let e = c.args.self.now in
    ap (λ (u : Used). row_by e.key e.slot.n (summary_in e.summary) e.reach u e.gone) c.set_offset.ensures
    ∙ row-moved e.key e.slot.n (summary_in e.summary) e.reach e.gone c.args.c c.args.offset (used_of e.users)

pub returns-clause-group : goal.returns-clause-group
returns-clause-group c = ap (λ (u : Used). group_in u.way) c.set_offset.ensures ∙ group-moved c.args.c c.args.offset c.args.self.now.users.way
