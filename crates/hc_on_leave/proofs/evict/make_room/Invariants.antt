use Rattle.hc_effects.proofs.Vocabulary.{act_list, spare}
use Rattle.hc_state.proofs.Rooms.{HaveGone}
use Rattle.hc_on_leave.proofs.evict.make_room.Given as goal

abbrev pub invariant-loop-i : goal.invariant-loop-i
invariant-loop-i g l = HaveGone l.fn.rows l.rows l.now l.i (act_list l.fn.out) (act_list l.out) (spare l.fn.out) (spare l.out)
