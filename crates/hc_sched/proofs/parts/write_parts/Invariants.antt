use Rattle.std.proofs.Common.{◌≡◌, ◌++◌, take}
use Rattle.hc_sched.specs.Parts.{parts_text}
use Rattle.hc_sched.proofs.parts.write_parts.Given as goal

abbrev pub invariant-loop-part : goal.invariant-loop-part
invariant-loop-part l = l.to.items ≡ l.initial.to.items ++ parts_text (take l.part-index l.parts)
