use Rattle.std.proofs.Common.{◌≡◌, ◌∙◌, [], ap, inl, inr}
use Rattle.hc_fields.specs.FieldList.{is_own_value}
use Rattle.hc_generate.proofs.RangeTexts.{own-range, range-never_refused}
use Rattle.hc_generate.proofs.request.range_from.Goals as goal
use Rattle.hc_validate.proofs.Names.{IsToken-range}

pub append_checked-requires-clause-is_name : goal.append_checked-requires-clause-is_name
append_checked-requires-clause-is_name c = IsToken-range

pub append_checked-requires-clause-is_value : goal.append_checked-requires-clause-is_value
append_checked-requires-clause-is_value c = ap is_own_value (c.as_slice.ensures.value ∙ c.in_ok-text.ensures) ∙ own-range c.args.l c.ranges.l.fits

pub unreachable-requires : goal.unreachable-requires
unreachable-requires c =
    let empty : c.in_ok-fields.fields ≡ [] = cc c.in_ok-fields.ensures in
    elim c.in-Err.ensures.answer [
      | inl memory ↦ c.in_default.not-NoMemory memory.0
      | inr refused ↦
          range-never_refused c.in-Err.e c.in_ok-fields.fields c.as_slice.result.now c.args.l empty (c.as_slice.ensures.value ∙ c.in_ok-text.ensures)
          c.ranges.l.fits refused
    ]
