use Rattle.hc_on_leave.proofs.ReportOffsets.{ReportedSoFar}
use Rattle.hc_on_leave.proofs.lose.report_offsets.Given as goal

abbrev pub invariant-loop-i : goal.invariant-loop-i
invariant-loop-i g l = ReportedSoFar l.fn.entries l.entries l.consumers l.r l.i
