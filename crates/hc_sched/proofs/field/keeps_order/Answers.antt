use Rattle.hc_fields.proofs.Ends.{none_after-last}
use Rattle.hc_sched.proofs.field.keeps_order.Goals as goal

pub returns : goal.returns
returns c =
    rw (c.is_lt.ensures, c.cmp.ensures)
    (none_after-last c.args.name.now c.args.fields.now (c.at.result.0.now, c.at.result.1.now) c.len-len.ensures.list.sorted
    (rw c.len-len.ensures.value at c.at.ensures))
