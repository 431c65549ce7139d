use Rattle.std.proofs.Common.{arith}
use Rattle.hc_fields.proofs.NextLemmas.{none_next}
use Rattle.hc_fields.proofs.reading.read_marks.Goals as goal

pub returns-in_default-clause-none : goal.returns-in_default-clause-none
returns-in_default-clause-none c =
    none_next c.args.text.now c.loop-taken.marks.items c.loop-taken.read c.loop-taken.invariant.read c.args.count
    (omega (arith, c.loop-taken.invariant.count_is, c.loop-taken.marks.ok.0, c.loop-taken-test.true))
    (rw c.in_default.is at c.in_ok-next.ensures.none)
