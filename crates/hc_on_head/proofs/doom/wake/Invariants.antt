use Rattle.hc_on_head.proofs.WakeLoop.{WokenSoFar}
use Rattle.hc_on_head.proofs.doom.wake.Given as goal

abbrev pub invariant-loop-i : goal.invariant-loop-i
invariant-loop-i g l = WokenSoFar l.fn.rows l.rows l.i l.now l.key
