use Rattle.std.proofs.Common.{ap, ◌∙◌}
use Rattle.hc_entry.specs.{ActiveEntries.{used_of}, Used.{Used}}
use Rattle.hc_stored.specs.Rows.{row_by, summary_in}
use Rattle.hc_stored.proofs.UserRows.{either_way, ends-as, ends-joined, row-first}
use Rattle.hc_stored.proofs.entry.Entry.bind_first.Goals as goal

pub invariant_of-self : goal.invariant_of-self
invariant_of-self c =
    let e = c.args.self.now in
    record {
      within = e.within;
      stored = either_way c.bind_first.result c.bind_first.ensures.ok c.bind_first.ensures.err
          (λ done. ends-as e.reach done (ends-joined e.reach c.args.c e.users.way e.stored)) (λ same. ends-as e.reach same e.stored);
    }

pub returns-clause-ok : goal.returns-clause-ok
returns-clause-ok c =
    let e = c.args.self.now in
    ap (λ (u : Used). row_by e.key e.slot.n (summary_in e.summary) e.reach u e.gone) c.in_ok-bind_first.ensures.ok
    ∙ row-first e.key e.slot.n (summary_in e.summary) e.reach e.gone c.args.c (used_of e.users)
