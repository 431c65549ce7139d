use Rattle.hc_core.specs.Steps.{live_in}
use Rattle.hc_saving.proofs.Leaves.{LeavesOn}
use Rattle.hc_saving.proofs.leaving.leave_all.Given as goal

abbrev pub invariant-loop-c : goal.invariant-loop-c
invariant-loop-c l = LeavesOn l.fn.cache l.cache l.now

abbrev pub decreases-loop-c : goal.decreases-loop-c
decreases-loop-c l = live_in l.cache
