use Rattle.std.proofs.Common.{◌∙◌}
use Rattle.hc_effects.proofs.Vocabulary.{act_list}
use Rattle.hc_front.proofs.FrontPaths.{on_err_by, truncated, has_ended}
use Rattle.hc_front.proofs.front.Front.end.Goals as goal
use Rattle.hc_state.proofs.Words.{ok_then}

pub returns-then-is_err-clause-kept : goal.returns-then-is_err-clause-kept
returns-then-is_err-clause-kept g c =
    let q = c.in_ok-step.ensures.answered in
    on_err_by c.push-reported.result c.push-reported.ensures.err
    (λ same. truncated (act_list c.args.out.now) q.acts (act_list c.push-reported.new.self) (act_list c.truncate.new.self) c.list-start.result.now
    c.list-start.ensures (same ∙ q.reported) c.truncate.ensures.acts)

pub returns-else-is_err-clause-stepped : goal.returns-else-is_err-clause-stepped
returns-else-is_err-clause-stepped g c =
    ok_then c.push-reported.result c.push-reported.ensures.ok
    (λ pushed.
    has_ended c.args.self.now _ c.args.now _ _ c.in_ok-step.ensures.moment c.in_ok-step.ensures.ready c.in_ok-step.ensures.received c.args.c c.args.want
    (act_list c.step.new.out) c.in_ok-step.ensures.answered pushed c.requires.ending c.forget.ensures)
