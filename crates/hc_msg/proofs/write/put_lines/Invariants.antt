use Rattle.std.proofs.Common.{◌≡◌, ◌++◌, take}
use Rattle.hc_msg.specs.Writing.{lines_of}
use Rattle.hc_msg.proofs.write.put_lines.Given as goal

abbrev pub invariant-loop-i : goal.invariant-loop-i
invariant-loop-i l = l.to.items ≡ l.initial.to.items ++ lines_of (take l.i l.fields)
