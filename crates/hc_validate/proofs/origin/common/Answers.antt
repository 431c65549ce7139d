use Rattle.std.{proofs.Common.{◌≡◌, ◌∙◌, ◌++◌, ◌∷◌, [], ℕ, List, ap}, specs.Fmt.{decimal}}
use Rattle.hc_fields.specs.FieldList.{is_own_value}
use Rattle.hc_validate.proofs.{Names.{IsToken-accept_ranges, IsToken-cache_control, IsToken-etag}, Numbers.{own-quoted, quoted}}
use Rattle.hc_validate.proofs.origin.common.Goals as goal

pub set_field-requires-clause-name : goal.set_field-requires-clause-name
set_field-requires-clause-name c = IsToken-accept_ranges

pub set_field-requires-2-clause-name : goal.set_field-requires-2-clause-name
set_field-requires-2-clause-name c = IsToken-cache_control

pub set_field-requires-3-clause-name : goal.set_field-requires-3-clause-name
set_field-requires-3-clause-name c = IsToken-etag

pub set_field-requires-3-clause-value : goal.set_field-requires-3-clause-value
set_field-requires-3-clause-value c =
    let text : c.as_slice.result.now ≡ quoted c.args.size =
    c.as_slice.ensures.value ∙ c.in_ok-push-2.ensures.items
    ∙ ap (λ (t : List ℕ). t ++ 34 ∷ [])
    (c.in_ok-write_number.ensures.ok ∙
    ap (λ (t : List ℕ). t ++ decimal c.args.size) (c.in_ok-push.ensures.items ∙ ap (λ (t : List ℕ). t ++ 34 ∷ []) c.new-tag.ensures.items)) in
    ap is_own_value text ∙ own-quoted c.args.size c.ranges.size.fits
