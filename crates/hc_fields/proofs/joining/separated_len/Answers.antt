use Rattle.std.proofs.Common.{arith}
use Rattle.hc_fields.proofs.{Joins.{separated-within, separated-le}, Places.{no_mark}}
use Rattle.hc_fields.proofs.joining.separated_len.Goals as goal

pub overflow_add-total-in-loop-mark : goal.overflow_add-total-in-loop-mark
overflow_add-total-in-loop-mark c =
    let within = separated-within c.args.text.now c.args.marks.now c.loop-mark.mark-index no_mark c.loop-mark-test.true in
    rw c.value.ensures (omega (arith, within, separated-le c.args.text.now c.args.marks.now, c.loop-mark.invariant, c.requires.few, c.requires.small))
