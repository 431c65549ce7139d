use Rattle.std.{proofs.Common.{refl, sym, ap, ◌∙◌, subst}, specs.Prelude.{Some}}
use Rattle.hc_effects.proofs.Vocabulary.{act_list, is_denied, IsEventWithinLimits, Request, event}
use Rattle.hc_core.specs.Steps as core
use Rattle.hc_front.specs.Watching.{ChangesAt, newly}
use Rattle.hc_front.proofs.FrontPaths.{on_err_by, truncated, none_more, behind_all, without_within, has_denied, has_watched}
use Rattle.hc_front.proofs.front.Front.start_watched.Goals as goal
use Rattle.hc_state.proofs.Words.{on_ok_two}

pub step-requires-clause-within_limits : goal.step-requires-clause-within_limits
step-requires-clause-within_limits g c =
    subst (λ (r : Request). IsEventWithinLimits (event.Start c.args.c r)) (sym c.in_ok-unconditioned.ensures)
    (without_within c.args.c c.args.request.now c.requires.within_limits)

pub returns-then-is_denied-clause-stepped : goal.returns-then-is_denied-clause-stepped
returns-then-is_denied-clause-stepped g c =
    let q = subst (λ (r : Request). core.Steps c.args.self.now.cache c.step.new.self (act_list c.args.out.now) (act_list c.step.new.out) c.args.now
    (event.Start c.args.c r)) c.in_ok-unconditioned.ensures c.in_ok-step.ensures.answered in
    let same = behind_all (act_list c.args.out.now) q.acts (act_list c.step.new.out) c.list-start.result.now c.list.result.now c.list-start.ensures
    c.list.ensures q.reported in
    has_denied c.args.self.now _ c.args.now _ _ c.in_ok-step.ensures.moment c.in_ok-step.ensures.ready c.in_ok-step.ensures.received c.args.c
    c.args.request.now q refl
    (ap is_denied (sym same) ∙ sym c.is_denied.ensures ∙ c.if-is_denied.true) c.requires.watched

pub watch-requires : goal.watch-requires
watch-requires g c =
    let q = c.in_ok-step.ensures.answered in
    none_more (act_list c.args.out.now) q.acts (act_list c.step.new.out) c.list-start.result.now c.list-start.ensures q.reported

pub returns-clause-stepped : goal.returns-clause-stepped
returns-clause-stepped g c =
    let q = subst (λ (r : Request). core.Steps c.args.self.now.cache c.step.new.self (act_list c.args.out.now) (act_list c.step.new.out) c.args.now
    (event.Start c.args.c r)) c.in_ok-unconditioned.ensures c.in_ok-step.ensures.answered in
    let same = behind_all (act_list c.args.out.now) q.acts (act_list c.step.new.out) c.list-start.result.now c.list.result.now c.list-start.ensures
    c.list.ensures q.reported in
    on_ok_two c.watch.result c.watch.ensures.watched c.watch.ensures.same
    (λ changes kept.
    has_watched c.args.self.now _ c.args.now _ _ c.in_ok-step.ensures.moment c.in_ok-step.ensures.ready c.in_ok-step.ensures.received c.args.c
    c.args.request.now
    (act_list c.step.new.out) q kept
    (subst (λ (r : Request). ChangesAt c.args.c (Some (newly r)) c.args.self.now.watches c.watch.new.watches) c.in_ok-own.ensures changes)
    (ap is_denied (sym same) ∙ sym c.is_denied.ensures ∙ c.if-is_denied.false) c.requires.watched)

pub returns-clause-kept : goal.returns-clause-kept
returns-clause-kept g c =
    on_err_by c.watch.result c.watch.ensures.kept
    (λ cut. truncated (act_list c.args.out.now) c.in_ok-step.ensures.answered.acts (act_list c.step.new.out) (act_list c.watch.new.out)
    c.list-start.result.now c.list-start.ensures c.in_ok-step.ensures.answered.reported cut)
