use Rattle.std.proofs.Common.{◌≡◌, take}
use Rattle.hc_fields.proofs.list.FieldList.copy.Given as goal

abbrev pub invariant-loop-field : goal.invariant-loop-field
invariant-loop-field l = l.items.items ≡ take l.field-index l.field-items
