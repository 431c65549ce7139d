use Rattle.std.proofs.Common.{◌≡◌, ◌∙◌, ◌+◌, ℕ, List, ◌∷◌, false, drop, ap, inl, inr, sym}
use Rattle.hc_fields.specs.FieldList.{field_list_with}
use Rattle.hc_validate.specs.Updates.{is_within_limits, changeable_fields, with_all, FieldPairs}
use Rattle.hc_validate.proofs.Renewals.{field_at, refused_large, taken-fixed, taken-more}
use Rattle.hc_validate.proofs.updates.append_taken.Goals as goal

pub loop-i-preserved-then-is_fixed : goal.loop-i-preserved-then-is_fixed
loop-i-preserved-then-is_fixed c =
    let from = c.args.from.now in
    let g : List ℕ × List ℕ = (c.at.result.0.now, c.at.result.1.now) in
    let same = taken-fixed from c.loop-i.i g c.at.ensures (sym c.is_fixed.ensures ∙ c.if-is_fixed.true) in
    ap (λ (t : FieldPairs). with_all t c.loop-i.kept) (sym same) ∙ c.loop-i.invariant

pub loop-i-preserved : goal.loop-i-preserved
loop-i-preserved c =
    let from = c.args.from.now in
    let g : List ℕ × List ℕ = (c.at.result.0.now, c.at.result.1.now) in
    let rest = changeable_fields (drop (c.loop-i.i + 1) from) in
    let field = field_at from c.loop-i.i g c.len-i-end.ensures.list c.at.ensures in
    let more = taken-more from c.loop-i.i g c.at.ensures (sym c.is_fixed.ensures ∙ c.if-is_fixed.false) in
    let put_is = c.in_default.ensures.ok ∙ ap (λ (n : List ℕ). field_list_with n g.1 c.loop-i.kept) field.is_lower in
    ap (with_all rest) put_is ∙ ap (λ (t : FieldPairs). with_all t c.loop-i.kept) (sym more) ∙ c.loop-i.invariant

pub returns-in_default-e : goal.returns-in_default-e
returns-in_default-e c =
    let from = c.args.from.now in
    let g : List ℕ × List ℕ = (c.at.result.0.now, c.at.result.1.now) in
    let rest = changeable_fields (drop (c.loop-i.i + 1) from) in
    let field = field_at from c.loop-i.i g c.len-i-end.ensures.list c.at.ensures in
    let more = taken-more from c.loop-i.i g c.at.ensures (sym c.is_fixed.ensures ∙ c.if-is_fixed.false) in
    let large : is_within_limits (with_all (g ∷ rest) c.loop-i.kept) ≡ false = elim c.in-Err.ensures.answer [
      | inl memory ↦ absurd (c.in_default-e.not-NoMemory memory.0)
      | inr refused ↦ refused_large c.in-Err.e g rest c.loop-i.kept field refused
    ] in
    let same = ap (λ (t : FieldPairs). with_all t c.loop-i.kept) (sym more) ∙ c.loop-i.invariant in
    record { fits = sym large ∙ ap is_within_limits same; all = λ e. cc }
