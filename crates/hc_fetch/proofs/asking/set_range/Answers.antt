use Rattle.std.{proofs.Common.{◌∙◌, ◌++◌, ◌∷◌, [], ℕ, List, ap}, specs.Fmt.{decimal}}
use Rattle.hc_fields.specs.FieldList.{is_own_value}
use Rattle.hc_validate.proofs.Names.{IsToken-range}
use Rattle.hc_fetch.proofs.Ranges.{own-asked}
use Rattle.hc_fetch.proofs.asking.set_range.Goals as goal

pub set_field-requires-clause-name : goal.set_field-requires-clause-name
set_field-requires-clause-name c = IsToken-range

pub set_field-requires-clause-value : goal.set_field-requires-clause-value
set_field-requires-clause-value c =
    let begun = c.in_ok-write_number.ensures.ok ∙ ap (λ (t : List ℕ). t ++ decimal c.args.first) c.in_ok-text.ensures.items in
    let more = c.in_ok-push.ensures.items ∙ ap (λ (t : List ℕ). t ++ 45 ∷ []) begun in
    let text = c.as_slice.ensures.value ∙ (c.in_ok-write_number-2.ensures.ok ∙ ap (λ (t : List ℕ). t ++ decimal c.args.last) more) in
    ap is_own_value text ∙ own-asked c.args.first c.args.last c.ranges.first.fits c.ranges.last.fits
