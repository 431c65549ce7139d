use Rattle.std.proofs.Common.{◌∙◌, sym, arith}
use Rattle.hc_text.proofs.{ElementLemmas.{elements_skip_blank, elements_skip_comma, elements_past}, list.first_start.Goals.{else-not-is_blank-via-then-not-is_blank+else-text-at-ne44, else-not-is_blank-via-else-not-is_blank}}
use Rattle.hc_text.proofs.list.first_start.Goals as goal

pub loop-at-preserved : goal.loop-at-preserved
loop-at-preserved c =
    let text = c.args.text.now in
    c.loop-at.invariant ∙ elim c.else-not-is_blank.branch [
      | else-not-is_blank-via-then-not-is_blank+else-text-at-ne44 w ↦ elements_skip_comma text c.loop-at.at c.loop-at-test.true w.if-text-at-ne44.false
      | else-not-is_blank-via-else-not-is_blank w ↦ elements_skip_blank text c.loop-at.at c.loop-at-test.true (sym c.is_blank.ensures ∙ w.if-not-is_blank.false)
    ]

pub returns-clause-none : goal.returns-clause-none
returns-clause-none c = c.loop-at.invariant ∙ elements_past c.args.text.now c.loop-at.at (omega arith)
