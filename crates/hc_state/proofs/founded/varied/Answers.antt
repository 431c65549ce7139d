use Rattle.std.proofs.{Common.{◌∙◌, ◌+◌, ℕ, List, ◌≤◌, drop, length, ap, arith, sym}, lemmas.List.{drop_all}}
use Rattle.hc_validate.specs.Updates.{left_by, FieldPairs}
use Rattle.hc_validate.proofs.Renewals.{left_by-nil}
use Rattle.hc_state.proofs.{Varied.{unnamed, varied-first, varied-removed, varied-kept}, founded.varied.Goals.{then-not-is_varied, else-not-is_varied}}
use Rattle.hc_state.proofs.founded.varied.Goals as goal

pub loop-i-init : goal.loop-i-init
loop-i-init c = ap (left_by (unnamed c.args.reported.now c.args.asked.now)) c.in_ok-fields.ensures ∙ varied-first c.args.asked.now c.args.reported.now

pub loop-i-preserved : goal.loop-i-preserved
loop-i-preserved c =
    let field : List ℕ × List ℕ = (c.at.result.0.now, c.at.result.1.now) in
    elim c.if-not-is_varied.branch [
      | then-not-is_varied w ↦ varied-removed c.args.reported.now c.args.asked.now c.loop-i.fields c.loop-i.i field c.len-i-end.ensures.list c.at.ensures
          c.loop-i.invariant (sym c.is_varied.ensures ∙ w.if-not-is_varied.true) c.if-not-is_varied.fields (w.fields-is ∙ w.remove.ensures.left)
      | else-not-is_varied w ↦ ap (left_by (unnamed c.args.reported.now (drop (c.loop-i.i + 1) c.args.asked.now))) w.fields-is ∙
          (varied-kept c.args.reported.now c.args.asked.now c.loop-i.fields c.loop-i.i field c.len-i-end.ensures.list c.at.ensures c.loop-i.invariant
          (sym c.is_varied.ensures ∙ w.if-not-is_varied.false))
    ]

pub returns : goal.returns
returns c =
    let past : length c.args.asked.now ≤ c.loop-i.i = omega (arith, c.len-i-end.ensures.value, c.loop-i-test.false) in
    let nothing = drop_all c.loop-i.i c.args.asked.now past in
    sym (left_by-nil c.loop-i.fields) ∙ ap (λ (t : FieldPairs). left_by (unnamed c.args.reported.now t) c.loop-i.fields) (sym nothing) ∙ c.loop-i.invariant
