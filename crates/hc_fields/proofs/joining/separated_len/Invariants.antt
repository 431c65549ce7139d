use Rattle.std.proofs.Common.{◌≡◌, length, take}
use Rattle.hc_fields.specs.Marks.{separated_text}
use Rattle.hc_fields.proofs.joining.separated_len.Given as goal

abbrev pub invariant-loop-mark : goal.invariant-loop-mark
invariant-loop-mark l = l.total ≡ length (separated_text l.text (take l.mark-index l.marks))
