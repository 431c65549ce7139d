use Rattle.std.proofs.Common.{◌∙◌, ◌++◌, ℕ, List, ap}
use Rattle.hc_fields.specs.FieldList.{is_own_value}
use Rattle.hc_range.specs.Spans.{content_range_text}
use Rattle.hc_validate.proofs.{Names.{IsToken-content_length, IsToken-content_range}, Numbers.{own-content_range}}
use Rattle.hc_validate.proofs.showing.add_range.Goals as goal

pub set_number-requires-clause-name : goal.set_number-requires-clause-name
set_number-requires-clause-name c = IsToken-content_length

pub set_field-requires-clause-name : goal.set_field-requires-clause-name
set_field-requires-clause-name c = IsToken-content_range

pub set_field-requires-clause-value : goal.set_field-requires-clause-value
set_field-requires-clause-value c =
    let text = c.as_slice.ensures.value ∙ c.in_ok-write_content_range.ensures.ok ∙
    ap (λ (t : List ℕ). t ++ content_range_text c.args.span c.args.total) c.new-text.ensures.items in
    ap is_own_value text ∙ own-content_range c.args.span c.args.total c.requires.within
