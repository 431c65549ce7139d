use Rattle.std.{proofs.Common.{◌∙◌, ◌++◌, ℕ, List, ap, arith}, specs.{Fmt.{decimal}, Prelude.{codes}}}
use Rattle.hc_fields.specs.FieldList.{is_own_value, size_of}
use Rattle.hc_validate.proofs.{Names.{IsToken-content_length, IsToken-content_range}, Numbers.{own-unsatisfied}, Common.{size-common}}
use Rattle.hc_validate.proofs.origin.unsatisfied.Goals as goal

pub set_number-requires-clause-name : goal.set_number-requires-clause-name
set_number-requires-clause-name c = IsToken-content_length

pub set_number-requires-clause-small : goal.set_number-requires-clause-small
set_number-requires-clause-small c = omega (arith, ap size_of c.requires, size-common c.args.size c.ranges.size.fits)

pub set_field-requires-clause-name : goal.set_field-requires-clause-name
set_field-requires-clause-name c = IsToken-content_range

pub set_field-requires-clause-value : goal.set_field-requires-clause-value
set_field-requires-clause-value c =
    let text = c.as_slice.ensures.value ∙ c.in_ok-write_number.ensures.ok ∙
    ap (λ (t : List ℕ). t ++ decimal c.args.size)
    (c.in_ok-extend_from_slice.ensures.items ∙ ap (λ (t : List ℕ). t ++ codes "bytes */") c.new-text.ensures.items) in
    ap is_own_value text ∙ own-unsatisfied c.args.size c.ranges.size.fits
