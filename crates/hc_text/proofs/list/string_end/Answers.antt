use Rattle.std.proofs.Common.{arith}
use Rattle.hc_text.specs.Elements.{Within}
use Rattle.hc_text.proofs.{ElementLemmas.{cut_start, cut_close, cut_taken, cut_within}, list.string_end.Goals.{then-taken, else-taken+else-text-at-eq34}}
use Rattle.hc_text.proofs.list.string_end.Goals as goal

pub loop-at-init : goal.loop-at-init
loop-at-init c = cut_start c.args.text.now c.args.start Within

pub returns-then-text-at-eq34-clause-string : goal.returns-then-text-at-eq34-clause-string
returns-then-text-at-eq34-clause-string c =
    cut_close c.args.text.now c.args.start c.loop-at.at c.loop-at.taken (omega arith) c.loop-at-test.true c.if-taken.false c.if-text-at-eq34.true
    c.loop-at.invariant

pub loop-at-preserved : goal.loop-at-preserved
loop-at-preserved c =
    let text = c.args.text.now in
    elim c.if-taken.branch [
      | then-taken w ↦ cut_taken text c.args.start c.loop-at.at c.loop-at.taken c.if-taken.taken (omega arith) c.loop-at-test.true w.if-taken.true
          w.taken-is c.loop-at.invariant
      | else-taken+else-text-at-eq34 w ↦ cut_within
          text c.args.start c.loop-at.at c.loop-at.taken c.if-taken.taken (omega arith) c.loop-at-test.true w.if-taken.false w.if-text-at-eq34.false
          w.taken-is c.loop-at.invariant
    ]
