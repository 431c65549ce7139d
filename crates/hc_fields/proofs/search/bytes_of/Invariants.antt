use Rattle.std.proofs.Common.{◌≡◌, take}
use Rattle.hc_fields.specs.{FieldList.{size_of}, Marks.{fields_at}}
use Rattle.hc_fields.proofs.search.bytes_of.Given as goal

abbrev pub invariant-loop-mark : goal.invariant-loop-mark
invariant-loop-mark l = l.total ≡ size_of (take l.mark-index (fields_at l.text l.marks))
