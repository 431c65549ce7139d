use Rattle.std.proofs.Common.{◌∙◌, ap}
use Rattle.hc_fields.specs.FieldList.{is_own_value}
use Rattle.hc_validate.proofs.Numbers.{own-decimal}
use Rattle.hc_validate.proofs.showing.set_number.Goals as goal

pub set_field-requires-clause-value : goal.set_field-requires-clause-value
set_field-requires-clause-value c =
    ap is_own_value (c.as_bytes.ensures.value ∙ c.format.ensures.text) ∙ own-decimal c.args.number c.ranges.number.fits
