use Rattle.std.proofs.Common.{◌≡◌, ◌++◌, take}
use Rattle.hc_fields.specs.{Lines.{fields_text}, Marks.{fields_at}}
use Rattle.hc_fields.proofs.lines.write_each.Given as goal

abbrev pub invariant-loop-mark : goal.invariant-loop-mark
invariant-loop-mark l = l.to.items ≡ l.initial.to.items ++ fields_text (fields_at l.text (take l.mark-index l.marks))
