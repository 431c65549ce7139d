use Rattle.hc_state.specs.Changes.{over_if_passed}
use Rattle.hc_on_leave.proofs.SeatLoops.{AreChangedBelow}
use Rattle.hc_on_leave.proofs.evict.start_passed_over.Given as goal

abbrev pub invariant-loop-i : goal.invariant-loop-i
invariant-loop-i l = AreChangedBelow l.i l.keys l.key (over_if_passed l.now) l.initial.consumers l.consumers
