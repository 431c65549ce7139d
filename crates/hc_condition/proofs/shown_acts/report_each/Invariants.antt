use Rattle.std.{proofs.Common.{◌≡◌, ◌++◌, length, take, map}, specs.{Prelude.{◌||◌}, List.{list_any}}}
use Rattle.hc_event.specs.{Acts.{act_list}, Drain.{left_of}}
use Rattle.hc_condition.specs.ShownActs.{act_shown, is_satisfying}
use Rattle.hc_condition.proofs.shown_acts.report_each.Given as goal

abbrev pub invariant-loop-act : goal.invariant-loop-act
invariant-loop-act l =
    goal.iterator-loop-act.can_next l.act-iterator ×
    goal.iterator-loop-act.is_finite l.act-iterator ×
    (act_list l.out ++ map (act_shown l.request) (left_of l.act-iterator) ≡ act_list l.fn.out ++ map (act_shown l.request) (act_list l.fn.heard)) ×
    ((l.satisfied || list_any (is_satisfying l.request) (left_of l.act-iterator)) ≡ list_any (is_satisfying l.request) (act_list l.fn.heard)) ×
    (take (length (act_list l.fn.out)) (act_list l.out) ≡ act_list l.fn.out)
