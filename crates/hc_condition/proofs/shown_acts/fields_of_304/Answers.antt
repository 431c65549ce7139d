use Rattle.std.proofs.{Common.{◌∙◌, ◌+◌, ◌≤◌, ◌≡◌, ℕ, List, drop, length, ap, arith, sym}, lemmas.List.{drop_all}}
use Rattle.hc_fields.specs.FieldList.{without}
use Rattle.hc_validate.specs.Updates.{left_by, FieldPairs}
use Rattle.hc_validate.proofs.Renewals.{field_at, left_by-more, left_by-nil}
use Rattle.hc_condition.proofs.Reported.{first_left, left_reported, unreported, unreported-more, unreported-reported}
use Rattle.hc_condition.proofs.shown_acts.fields_of_304.Goals as goal

pub loop-i-init : goal.loop-i-init
loop-i-init c = ap (left_reported 0 c.args.fields.now) c.in_ok-reported.ensures ∙ first_left c.args.fields.now

pub loop-i-preserved-then-is_reported : goal.loop-i-preserved-then-is_reported
loop-i-preserved-then-is_reported c =
    let from = c.args.fields.now in
    let g : List ℕ × List ℕ = (c.at.result.0.now, c.at.result.1.now) in
    let same = unreported-reported from c.loop-i.i g c.at.ensures (sym c.is_reported.ensures ∙ c.if-is_reported.true) in
    ap (λ (t : FieldPairs). left_by t c.loop-i.reported) (sym same) ∙ c.loop-i.invariant

pub loop-i-preserved : goal.loop-i-preserved
loop-i-preserved c =
    let from = c.args.fields.now in
    let g : List ℕ × List ℕ = (c.at.result.0.now, c.at.result.1.now) in
    let field = field_at from c.loop-i.i g c.len-i-end.ensures.list c.at.ensures in
    let more = unreported-more from c.loop-i.i g c.at.ensures (sym c.is_reported.ensures ∙ c.if-is_reported.false) in
    let left = c.remove.ensures.left ∙ ap (λ (n : List ℕ). without n c.loop-i.reported) field.is_lower in
    ap (left_reported (c.loop-i.i + 1) from) left ∙ left_by-more g (unreported (drop (c.loop-i.i + 1) from)) c.loop-i.reported ∙
    ap (λ (t : FieldPairs). left_by t c.loop-i.reported) (sym more) ∙ c.loop-i.invariant

pub returns : goal.returns
returns c =
    let past : length c.args.fields.now ≤ c.loop-i.i = omega (arith, c.len-i-end.ensures.value, c.loop-i-test.false) in
    let nothing = drop_all c.loop-i.i c.args.fields.now past in
    sym (left_by-nil c.loop-i.reported) ∙ ap (λ (t : FieldPairs). left_by (unreported t) c.loop-i.reported) (sym nothing) ∙ c.loop-i.invariant
