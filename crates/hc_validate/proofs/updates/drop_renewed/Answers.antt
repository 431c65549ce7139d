use Rattle.std.proofs.{Common.{◌∙◌, ◌+◌, ℕ, List, drop, ◌≤◌, length, ap, arith, sym}, lemmas.List.{drop_all}}
use Rattle.hc_fields.specs.FieldList.{without}
use Rattle.hc_validate.specs.Updates.{left_by, changeable_fields, FieldPairs}
use Rattle.hc_validate.proofs.Renewals.{field_at, left_by-more, left_by-nil, taken-fixed, taken-more}
use Rattle.hc_validate.proofs.updates.drop_renewed.Goals as goal

pub loop-i-preserved-then-is_fixed : goal.loop-i-preserved-then-is_fixed
loop-i-preserved-then-is_fixed c =
    let from = c.args.from.now in
    let g : List ℕ × List ℕ = (c.at.result.0.now, c.at.result.1.now) in
    let same = taken-fixed from c.loop-i.i g c.at.ensures (sym c.is_fixed.ensures ∙ c.if-is_fixed.true) in
    ap (λ (t : FieldPairs). left_by t c.loop-i.kept) (sym same) ∙ c.loop-i.invariant

pub loop-i-preserved : goal.loop-i-preserved
loop-i-preserved c =
    let from = c.args.from.now in
    let g : List ℕ × List ℕ = (c.at.result.0.now, c.at.result.1.now) in
    let rest = changeable_fields (drop (c.loop-i.i + 1) from) in
    let field = field_at from c.loop-i.i g c.len-i-end.ensures.list c.at.ensures in
    let more = taken-more from c.loop-i.i g c.at.ensures (sym c.is_fixed.ensures ∙ c.if-is_fixed.false) in
    let left = c.remove.ensures.left ∙ ap (λ (n : List ℕ). without n c.loop-i.kept) field.is_lower in
    ap (left_by rest) left ∙ left_by-more g rest c.loop-i.kept ∙ ap (λ (t : FieldPairs). left_by t c.loop-i.kept) (sym more) ∙ c.loop-i.invariant

pub returns : goal.returns
returns c =
    let past : length c.args.from.now ≤ c.loop-i.i = omega (arith, c.len-i-end.ensures.value, c.loop-i-test.false) in
    let nothing = drop_all c.loop-i.i c.args.from.now past in
    sym (left_by-nil c.loop-i.kept) ∙ ap (λ (t : FieldPairs). left_by (changeable_fields t) c.loop-i.kept) (sym nothing) ∙ c.loop-i.invariant
