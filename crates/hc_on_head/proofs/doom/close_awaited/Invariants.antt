use Rattle.std.proofs.Common.{◌-◌, ◌^◌}
use Rattle.hc_effects.proofs.Vocabulary.{act_list, spare}
use Rattle.hc_state.specs.Dooms.{behind}
use Rattle.hc_on_head.specs.Frames.{ChangesExchanges}
use Rattle.hc_on_head.proofs.DoomLoops.{ClosesBelow}
use Rattle.hc_on_head.proofs.doom.close_awaited.Given as goal

abbrev pub invariant-loop-x : goal.invariant-loop-x
invariant-loop-x g l = record {
  closed : ClosesBelow l.fn.rows l.rows.exchanges l.key l.refused (act_list l.fn.out) (act_list l.out) (spare l.fn.out) (spare l.out) (behind l.last);
  rest : ChangesExchanges l.fn.rows l.rows;
}

abbrev pub decreases-loop-x : goal.decreases-loop-x
decreases-loop-x g l = 2 ^ 64 - behind l.last
