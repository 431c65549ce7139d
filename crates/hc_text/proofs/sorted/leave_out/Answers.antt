use Rattle.std.proofs.Common.{sym}
use Rattle.hc_text.proofs.SortedLemmas.{without-none}
use Rattle.hc_text.proofs.sorted.leave_out.Goals as goal

pub returns-else-has_item-clause-items : goal.returns-else-has_item-clause-items
returns-else-has_item-clause-items g c =
    sym (without-none g.T.Numbered.number c.args.n c.args.items.now.items (rw c.as_slice.ensures.value at (sym c.if-has_item.ensures)))
