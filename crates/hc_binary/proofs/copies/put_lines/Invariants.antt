use Rattle.std.proofs.Common.{◌≤◌, length, take}
use Rattle.hc_fields.specs.Lines.{fields_text}
use Rattle.hc_binary.specs.Copies.{Puts}
use Rattle.hc_binary.proofs.copies.put_lines.Given as goal

abbrev pub invariant-loop-i : goal.invariant-loop-i
invariant-loop-i l = Puts l.fn.into l.fn.at (fields_text (take l.i l.fn.fields)) l.into l.at × (l.at ≤ length l.into)
