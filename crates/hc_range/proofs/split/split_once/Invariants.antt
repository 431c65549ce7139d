use Rattle.std.proofs.Common.{take}
use Rattle.hc_range.specs.Bytes.{LacksByte}
use Rattle.hc_range.proofs.split.split_once.Given as goal

abbrev pub invariant-loop-at : goal.invariant-loop-at
invariant-loop-at l = LacksByte l.byte (take l.at l.text)
