use Rattle.std.proofs.Common.{◌≡◌, take}
use Rattle.hc_fields.specs.Marks.{fields_at}
use Rattle.hc_fields.proofs.fields.Fields.listed.Given as goal

abbrev pub invariant-loop-mark : goal.invariant-loop-mark
invariant-loop-mark l = l.items.items ≡ fields_at l.self-inside.text.items (take l.mark-index l.mark-items)
