use Rattle.hc_state.specs.Dooms.{behind}
use Rattle.hc_on_head.proofs.DoomLoops.{IsNextBelow}
use Rattle.hc_on_head.proofs.doom.next_to_close.Given as goal

abbrev pub invariant-loop-i : goal.invariant-loop-i
invariant-loop-i g l = IsNextBelow l.fn.rows l.key l.fn.refused (behind l.last) l.i l.next
