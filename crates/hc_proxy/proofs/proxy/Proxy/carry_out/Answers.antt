use Rattle.std.proofs.Common.{rules, ◌∙◌, refl, subst, ℕ, List, [], ◌∷◌}
use Rattle.hc_effects.proofs.Vocabulary.{left_of, Act}
use Rattle.hc_proxy.specs.Underway.{Closes, IsUnderway, dialling}
use Rattle.hc_proxy.proofs.CarriedAll.{begins, next_of_some, goes_underway, fails_underway, all_carried_at}
use Rattle.hc_proxy.proofs.proxy.Proxy.carry_out.Goals as goal
use Rattle.hc_record.proofs.JoiningLemmas.{on_err}

pub loop-act-init : goal.loop-act-init
loop-act-init g c = (
  tt,
  tt,
  λ t p log k on.
      begins t p log _ _ c.args.self.now (record c.args.self.now { acts = c.replace-acts.new.dest }) (left_of c.into_iter-act-iterator.result)
      (search rules) k on,
  refl,
  refl,
  refl,
)

pub carry_out_one-requires : goal.carry_out_one-requires
carry_out_one-requires g c = record {
  next =
      next_of_some c.in-Some.act (left_of c.next.new.self) c.args.self.now c.loop-act.self (g.W.Wire.log c.args.wire.now) (g.W.Wire.log c.loop-act.wire)
      (g.W.Wire.stages c.args.wire.now) (g.W.Wire.stages c.loop-act.wire)
      (λ t p log k on. subst (λ (left : List Act). IsUnderway t p log left c.loop-act.self (g.W.Wire.log c.loop-act.wire)
      (g.W.Wire.stages c.loop-act.wire)) (search rules) (c.loop-act.invariant.2 t p log k on))
      c.requires.stands;
}

pub loop-act-preserved : goal.loop-act-preserved
loop-act-preserved g c = (
  tt,
  tt,
  λ t p log k on.
      let u : IsUnderway t p log (c.in-Some.act ∷ left_of c.next.new.self) c.loop-act.self (g.W.Wire.log c.loop-act.wire)
      (g.W.Wire.stages c.loop-act.wire) =
      subst (λ (left : List Act). IsUnderway t p log left c.loop-act.self (g.W.Wire.log c.loop-act.wire) (g.W.Wire.stages c.loop-act.wire)) (search rules)
      (c.loop-act.invariant.2 t p log k on) in
      goes_underway t p log c.in-Some.act (left_of c.next.new.self) c.loop-act.self c.carry_out_one.new.self _ _ _ _ u
      (c.in_ok-carry_out_one.ensures.ok (dialling u.more (g.W.Wire.stages c.loop-act.wire) t) u.p' u.log' (left_of c.next.new.self) u.keeps u.on_wire),
  c.in_ok-carry_out_one.ensures.cache ∙ c.loop-act.invariant.3,
  c.in_ok-carry_out_one.ensures.events ∙ c.loop-act.invariant.4,
  c.in_ok-carry_out_one.ensures.cause.calm ∙ c.loop-act.invariant.5,
)

pub returns-in_err-carry_out_one-clause-err : goal.returns-in_err-carry_out_one-clause-err
returns-in_err-carry_out_one-clause-err g c = λ t p log k on.
    let u : IsUnderway t p log (c.in-Some.act ∷ left_of c.next.new.self) c.loop-act.self (g.W.Wire.log c.loop-act.wire)
    (g.W.Wire.stages c.loop-act.wire) =
    subst (λ (left : List Act). IsUnderway t p log left c.loop-act.self (g.W.Wire.log c.loop-act.wire) (g.W.Wire.stages c.loop-act.wire)) (search rules)
    (c.loop-act.invariant.2 t p log k on) in
    on_err c.from_residual.result _ (fails_underway t p log c.in-Some.act (left_of c.next.new.self) c.loop-act.self c.carry_out_one.new.self _ _ _ _ u
    (c.in_err-carry_out_one.ensures.err (dialling u.more (g.W.Wire.stages c.loop-act.wire) t) u.p' u.log' (left_of c.next.new.self) u.keeps u.on_wire))

pub returns-clause-ok : goal.returns-clause-ok
returns-clause-ok g c = λ t p log k on.
    let u : IsUnderway t p log [] c.loop-act.self (g.W.Wire.log c.loop-act.wire) (g.W.Wire.stages c.loop-act.wire) =
    subst (λ (left : List Act). IsUnderway t p log left c.loop-act.self (g.W.Wire.log c.loop-act.wire) (g.W.Wire.stages c.loop-act.wire)) (search rules)
    (c.loop-act.invariant.2 t p log k on) in
    all_carried_at t p log c.loop-act.self _ (g.W.Wire.log c.loop-act.wire) _ (g.W.Wire.stages c.loop-act.wire) _ u refl (search rules) c.clear.ensures.items
    (subst (λ (ns : List ℕ). Closes ns u.log' (g.W.Wire.log c.close_each.new.wire) (g.W.Wire.stages c.loop-act.wire)
    (g.W.Wire.stages c.close_each.new.wire)) c.as_slice.ensures.value (c.close_each.ensures.closes u.log' u.on_wire.follows))
