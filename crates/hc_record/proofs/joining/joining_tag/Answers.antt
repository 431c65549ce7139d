use Rattle.std.{proofs.Common.{◌∷◌, [], List, ℕ, false, Some, sym, ap, ◌∙◌}, specs.Prelude.{codes}}
use Rattle.hc_etag.proofs.TagReads.{strong_in-some}
use Rattle.hc_fields.specs.FieldList.{values_of}
use Rattle.hc_record.specs.Head.{strong_opaque, one_strong_opaque}
use Rattle.hc_record.proofs.JoiningLemmas.{on_err, only_value_is, no_strong_opaque, strong_opaque-tag}
use Rattle.hc_record.proofs.joining.joining_tag.Goals as goal

pub returns-in_default-strong_in-clause-value : goal.returns-in_default-strong_in-clause-value
returns-in_default-strong_in-clause-value c =
    let one = only_value_is (values_of (codes "etag") c.args.fields.now) c.in-Some.value.now (sym c.in-Some.ensures) in
    sym (ap one_strong_opaque one ∙ no_strong_opaque c.in-Some.value.now (sym c.in_default-strong_in.ensures.value))

pub returns-in_err-bytes-clause-err : goal.returns-in_err-bytes-clause-err
returns-in_err-bytes-clause-err c =
    let opaque = c.in-Some-strong_in.opaque.now in
    let one = only_value_is (values_of (codes "etag") c.args.fields.now) c.in-Some.value.now (sym c.in-Some.ensures) in
    let spelled = strong_in-some c.in-Some.value.now opaque (sym c.in-Some-strong_in.ensures.value) in
    on_err c.from_residual.result _ (false, opaque, spelled.0, one ∙ ap (λ (v : List ℕ). v ∷ []) spelled.1)

pub invariant_of-result : goal.invariant_of-result
invariant_of-result c =
    let spelled = strong_in-some c.in-Some.value.now c.in-Some-strong_in.opaque.now (sym c.in-Some-strong_in.ensures.value) in
    let same = c.in_ok-bytes.ensures.items_if_clones_equal (λ x y e. e) in
    record { etagc = rw (c.of.ensures, same) spelled.0 }

pub returns-clause-value : goal.returns-clause-value
returns-clause-value c =
    let opaque = c.in-Some-strong_in.opaque.now in
    let one = only_value_is (values_of (codes "etag") c.args.fields.now) c.in-Some.value.now (sym c.in-Some.ensures) in
    let spelled = strong_in-some c.in-Some.value.now opaque (sym c.in-Some-strong_in.ensures.value) in
    let same = c.in_ok-bytes.ensures.items_if_clones_equal (λ x y e. e) in
    ap Some (c.of.ensures ∙ same) ∙ sym (ap one_strong_opaque one ∙ (ap strong_opaque spelled.1 ∙ strong_opaque-tag opaque spelled.0))
