use Rattle.std.proofs.Common.{length}
use Rattle.hc_head.proofs.ScanLemmas.{Passed}
use Rattle.hc_head.proofs.scan.seek.Given as goal

abbrev pub invariant-loop-at : goal.invariant-loop-at
invariant-loop-at l = Passed l.fn.scan l.fn.bytes l.used l.scan l.rest

abbrev pub decreases-loop-at : goal.decreases-loop-at
decreases-loop-at l = length l.rest
