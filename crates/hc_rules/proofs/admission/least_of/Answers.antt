use Rattle.std.proofs.Common.{◌∙◌, sym}
use Rattle.hc_rules.specs.{Admissions.{is_of}, declared.admission.Bound.{Bound}}
use Rattle.hc_rules.proofs.{LeastFolds.{least_taken, least_left}, admission.least_of.Goals.{then-is_of, else-is_of}}
use Rattle.hc_rules.proofs.admission.least_of.Goals as goal

pub loop-b-preserved : goal.loop-b-preserved
loop-b-preserved c =
    elim c.if-is_of.branch [
      | then-is_of w ↦ least_taken (is_of c.args.kind) (λ (b : Bound). b.c) c.args.bound.now c.loop-b.b-index _ _ _ c.loop-b-test.true c.loop-b.invariant
          (sym c.is_of.ensures ∙ w.if-is_of.true) (w.least-is ∙ w.lesser-least.ensures)
      | else-is_of w ↦ least_left (is_of c.args.kind) (λ (b : Bound). b.c) c.args.bound.now c.loop-b.b-index _ _ _ c.loop-b-test.true c.loop-b.invariant
          (sym c.is_of.ensures ∙ w.if-is_of.false) w.least-is
    ]
