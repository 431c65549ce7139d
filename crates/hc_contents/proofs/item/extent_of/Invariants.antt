use Rattle.std.proofs.Common.{drop}
use Rattle.hc_contents.proofs.Extents.{IsSeen}
use Rattle.hc_contents.proofs.item.extent_of.Given as goal

abbrev pub invariant-loop-run : goal.invariant-loop-run
invariant-loop-run l = IsSeen l.runs (drop l.run-index l.runs) l.extent.end l.extent.bytes l.x l.total
