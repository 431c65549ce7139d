use Rattle.std.proofs.Common.{rules, refl, arith}
use Rattle.hc_effects.proofs.Vocabulary.{act_list}
use Rattle.hc_saving.proofs.Leaves.{leaves_first, leaves_next, fewer_live, has_left}
use Rattle.hc_saving.proofs.leaving.leave_all.Goals as goal

pub loop-c-init : goal.loop-c-init
loop-c-init c = leaves_first c.args.cache.now c.last_moment-now.result c.requires.stands c.last_moment-now.ensures

pub loop-c-smaller : goal.loop-c-smaller
loop-c-smaller c =
    let fewer = fewer_live c.args.cache.now c.loop-c.cache c.step.new.self c.last_moment-now.result c.in-Some.c (act_list c.clear.new.self)
    (act_list c.step.new.out) c.loop-c.invariant c.in_ok-step.ensures.answered refl c.in-Some.ensures.least in
    omega (arith, fewer)

pub loop-c-preserved : goal.loop-c-preserved
loop-c-preserved c =
    leaves_next c.args.cache.now c.loop-c.cache c.step.new.self c.last_moment-now.result c.in-Some.c (act_list c.clear.new.self) (act_list c.step.new.out)
    c.loop-c.invariant c.in_ok-step.ensures.answered refl c.in-Some.ensures.least
    c.in_ok-step.ensures.moment (let received = c.in_ok-step.ensures.received in omega arith)

pub returns-clause-left : goal.returns-clause-left
returns-clause-left c = has_left c.args.cache.now c.loop-c.cache c.last_moment-now.result c.loop-c.invariant (search rules)
