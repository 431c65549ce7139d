use Rattle.std.proofs.Common.{rules, ◌≡◌, ◌∙◌, refl, length, ◌<◌}
use Rattle.hc_proxy.proofs.Closings.{closes_none, closes_next, closes_all}
use Rattle.hc_proxy.proofs.carry.close_each.Goals as goal

pub loop-k-init : goal.loop-k-init
loop-k-init g c = (λ log follows. closes_none log _ _ follows, refl, refl)

pub loop-k-preserved : goal.loop-k-preserved
loop-k-preserved g c = (
  λ log follows.
      let lt : c.loop-k.k-index < length c.args.ks.now = let on = c.loop-k-test.true in search rules in
      closes_next c.args.ks.now c.loop-k.k-index log _ _ _ _ _ lt (c.loop-k.invariant.0 log follows) c.close.ensures.log c.close.ensures.stages,
  c.close.ensures.events ∙ c.loop-k.invariant.1,
  c.close.ensures.faults ∙ c.loop-k.invariant.2,
)

pub returns-clause-closes : goal.returns-clause-closes
returns-clause-closes g c = λ log follows.
    let all : c.loop-k.k-index ≡ length c.args.ks.now = let off = c.loop-k-test.false in search rules in
    closes_all c.args.ks.now c.loop-k.k-index log _ _ _ all (c.loop-k.invariant.0 log follows)

pub returns-clause-events : goal.returns-clause-events
returns-clause-events g c = c.loop-k.invariant.1

pub returns-clause-faults : goal.returns-clause-faults
returns-clause-faults g c = c.loop-k.invariant.2
