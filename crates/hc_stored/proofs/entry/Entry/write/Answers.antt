use Rattle.std.proofs.Common.{refl, ap, ◌∙◌}
use Rattle.hc_entry.specs.{ActiveEntries.{used_of}, Used.{Used}}
use Rattle.hc_stored.specs.Rows.{row_by, summary_in}
use Rattle.hc_stored.proofs.UserRows.{either_way, ends-as, row-resumed}
use Rattle.hc_stored.proofs.entry.Entry.write.Goals as goal

pub invariant_of-self : goal.invariant_of-self
invariant_of-self c =
    let e = c.args.self.now in
    record {
      within = e.within;
      stored = either_way c.resume.result c.resume.ensures.ok c.resume.ensures.err
          (λ done. ends-as e.reach done refl) (λ same. ends-as e.reach same e.stored);
    }

pub returns-clause-ok : goal.returns-clause-ok
returns-clause-ok c =
    let e = c.args.self.now in
    ap (λ (u : Used). row_by e.key e.slot.n (summary_in e.summary) e.reach u e.gone) c.in_ok-resume.ensures.ok
    ∙ row-resumed e.key e.slot.n (summary_in e.summary) e.reach e.gone c.args.x e.reach (used_of e.users) c.requires
