use Rattle.std.proofs.Common.{take}
use Rattle.hc_fields.specs.Marks.{IsPacked}
use Rattle.hc_fields.proofs.lines.pack.Given as goal

abbrev pub invariant-loop-mark : goal.invariant-loop-mark
invariant-loop-mark l = IsPacked l.text (take l.mark-index l.marks) l.lines.items l.places.items
