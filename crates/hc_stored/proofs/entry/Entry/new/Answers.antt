use Rattle.std.proofs.Common.{false, ap, ◌∙◌, arith}
use Rattle.hc_entry.specs.Used.{Used}
use Rattle.hc_stored.specs.{Heads.{Summary}, Rows.{founded_row, row_by, summary_in}}
use Rattle.hc_stored.proofs.UserRows.{ends-as, ends-founded, row-founded}
use Rattle.hc_stored.proofs.entry.Entry.new.Goals as goal

pub invariant_of-result : goal.invariant_of-result
invariant_of-result c = record {
  within = omega arith;
  stored = ends-as 0 c.in_ok-users.ensures (ends-founded c.args.c c.args.first c.args.writer);
}

pub returns : goal.returns
returns c =
    let a = c.args in
    ap (λ (u : Used). row_by a.key a.slot.n (summary_in c.in_ok-summary.summary) 0 u false) c.in_ok-users.ensures
    ∙ (row-founded a.key a.slot.n (summary_in c.in_ok-summary.summary) a.c a.first a.writer
    ∙ ap (λ (s : Summary). founded_row a.key a.slot.n s a.c a.first a.writer) c.in_ok-summary.ensures)
