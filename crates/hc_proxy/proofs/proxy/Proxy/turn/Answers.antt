use Rattle.std.proofs.{Common.{ℕ, false, ◌≤◌, ◌+◌, ◌*◌, ◌^◌, sym, ◌∙◌, subst, arith}, Math.{Bridge.{le_prop}, Logic.{∥∥₁_map, ∥∥₁_elim}}}
use Rattle.hc_core.specs.Steps.{steps}
use Rattle.hc_wire.specs.Events.{FitsIn}
use Rattle.hc_proxy.specs.{Handling.{begun}, Keeping.{Begun}}
use Rattle.hc_proxy.proofs.TurnBegins as begins
use Rattle.hc_proxy.proofs.TurnGoes as goes
use Rattle.hc_proxy.proofs.proxy.Proxy.turn.Goals as goal
use Rattle.hc_record.proofs.JoiningLemmas.{on_err}

pub happens-requires-clause-begun : goal.happens-requires-clause-begun
happens-requires-clause-begun g c = ∥∥₁_map c.requires.ready (λ s.
    let n = g.W.Wire.events c.args.wire.now in
    let x = c.args.self.now in
    let reported = g.W.Wire.log c.args.wire.now in
    let reported' = g.W.Wire.log c.next.new.self in
    let stages = g.W.Wire.stages c.args.wire.now in
    let stages' = g.W.Wire.stages c.next.new.self in
    let fits : FitsIn c.in_ok-moment.event 16384 = subst (FitsIn c.in_ok-moment.event) c.requires.slice c.in_ok-moment.ensures.fits in
    let many : n + 1 ≤ 2 ^ 45 = (let a = c.in_ok-moment.ensures.events in let b = c.in_ok-moment.ensures.in_all in omega arith) in
    let call = begins.call n s.0 x s.1 s.2 reported reported' stages stages' s.3 c.args.wait c.in_ok-moment.moment c.in_ok-moment.event c.next.new.into
    c.in_ok-moment.ensures.of_open c.in_ok-moment.ensures.stages fits c.in_ok-moment.ensures.moment many in
    let b = begins.begins n s.0 x s.1 s.2 reported reported' stages stages' s.3 c.args.wait c.in_ok-moment.moment c.in_ok-moment.event c.next.new.into
    c.in_ok-moment.ensures.of_open c.in_ok-moment.ensures.stages fits c.in_ok-moment.ensures.moment many in (
      begins.turn n s.0 x s.1 s.2 reported reported' stages stages' s.3 c.args.wait c.in_ok-moment.moment c.in_ok-moment.event c.next.new.into
          c.in_ok-moment.ensures.of_open c.in_ok-moment.ensures.stages fits c.in_ok-moment.ensures.moment many,
      begun call s.1,
      subst (λ (m : ℕ). Begun (begins.turn n s.0 x s.1 s.2 reported reported' stages stages' s.3 c.args.wait c.in_ok-moment.moment c.in_ok-moment.event
          c.next.new.into c.in_ok-moment.ensures.of_open c.in_ok-moment.ensures.stages fits c.in_ok-moment.ensures.moment many)
          (record x { now = m; moved = false }) (begun call s.1) c.in_ok-moment.event c.next.new.into) (sym c.max-self.ensures) b,
    ))

pub happens-requires-clause-few : goal.happens-requires-clause-few
happens-requires-clause-few g c =
    ∥∥₁_elim c.requires.ready le_prop (λ s.
    let le : steps c.args.self.now.cache ≤ 2049 * g.W.Wire.events c.args.wire.now = s.3.within.steps_are in
    let a = c.in_ok-moment.ensures.events in
    let b = c.in_ok-moment.ensures.in_all in
    omega arith)

pub finish_turn-requires : goal.finish_turn-requires
finish_turn-requires g c = record {
  polled = ∥∥₁_map c.requires.ready (λ s.
      let n = g.W.Wire.events c.args.wire.now in
      let x = c.args.self.now in
      let reported = g.W.Wire.log c.args.wire.now in
      let reported' = g.W.Wire.log c.next.new.self in
      let stages = g.W.Wire.stages c.args.wire.now in
      let stages' = g.W.Wire.stages c.next.new.self in
      let fits : FitsIn c.in_ok-moment.event 16384 = subst (FitsIn c.in_ok-moment.event) c.requires.slice c.in_ok-moment.ensures.fits in
      let many : n + 1 ≤ 2 ^ 45 = (let a = c.in_ok-moment.ensures.events in let b = c.in_ok-moment.ensures.in_all in omega arith) in
      goes.polled_on n s.0 x s.1 s.2 reported reported' stages stages' s.3 c.args.wait c.in_ok-moment.moment c.in_ok-moment.event c.next.new.into
      c.in_ok-moment.ensures.of_open c.in_ok-moment.ensures.stages fits c.in_ok-moment.ensures.moment many c.in_ok-moment.ensures.ok s.4 c.max-self.result
      c.max-self.ensures c.happens.new.self c.in_ok-happens.ensures.goes);
}

pub returns-clause-ok : goal.returns-clause-ok
returns-clause-ok g c f p before s w =
    let n = g.W.Wire.events c.args.wire.now in
    let x = c.args.self.now in
    let reported = g.W.Wire.log c.args.wire.now in
    let reported' = g.W.Wire.log c.next.new.self in
    let stages = g.W.Wire.stages c.args.wire.now in
    let stages' = g.W.Wire.stages c.next.new.self in
    let fits : FitsIn c.in_ok-moment.event 16384 = subst (FitsIn c.in_ok-moment.event) c.requires.slice c.in_ok-moment.ensures.fits in
    let many : n + 1 ≤ 2 ^ 45 = (let a = c.in_ok-moment.ensures.events in let b = c.in_ok-moment.ensures.in_all in omega arith) in
    goes.turned_ok n f x p before reported reported' stages stages' s c.args.wait c.in_ok-moment.moment c.in_ok-moment.event c.next.new.into
    c.in_ok-moment.ensures.of_open c.in_ok-moment.ensures.stages fits c.in_ok-moment.ensures.moment many c.in_ok-moment.ensures.ok w c.max-self.result
    c.max-self.ensures c.happens.new.self c.in_ok-happens.ensures.goes
    c.finish_turn.result c.finish_turn.new.self (g.W.Wire.log c.finish_turn.new.wire) (g.W.Wire.stages c.finish_turn.new.wire)
    (g.K.Sink.taken c.args.log.now) (g.K.Sink.taken c.finish_turn.new.log) c.finish_turn.ensures.cache
    (g.W.Wire.events c.finish_turn.new.wire) (c.finish_turn.ensures.events ∙ c.in_ok-moment.ensures.events) c.in_ok-happens.ensures.steps
    c.finish_turn.ensures.ok

pub returns-clause-err : goal.returns-clause-err
returns-clause-err g c f p before s w =
    let n = g.W.Wire.events c.args.wire.now in
    let x = c.args.self.now in
    let reported = g.W.Wire.log c.args.wire.now in
    let reported' = g.W.Wire.log c.next.new.self in
    let stages = g.W.Wire.stages c.args.wire.now in
    let stages' = g.W.Wire.stages c.next.new.self in
    let fits : FitsIn c.in_ok-moment.event 16384 = subst (FitsIn c.in_ok-moment.event) c.requires.slice c.in_ok-moment.ensures.fits in
    let many : n + 1 ≤ 2 ^ 45 = (let a = c.in_ok-moment.ensures.events in let b = c.in_ok-moment.ensures.in_all in omega arith) in
    goes.turned_err n f x p before reported reported' stages stages' s c.args.wait c.in_ok-moment.moment c.in_ok-moment.event c.next.new.into
    c.in_ok-moment.ensures.of_open c.in_ok-moment.ensures.stages fits c.in_ok-moment.ensures.moment many c.in_ok-moment.ensures.ok w c.max-self.result
    c.max-self.ensures c.happens.new.self c.in_ok-happens.ensures.goes
    c.finish_turn.result c.finish_turn.new.self (g.W.Wire.log c.finish_turn.new.wire) (g.W.Wire.stages c.finish_turn.new.wire)
    (g.K.Sink.taken c.args.log.now) (g.K.Sink.taken c.finish_turn.new.log) c.finish_turn.ensures.cache
    c.finish_turn.ensures.err

pub returns-in_err-happens-clause-err : goal.returns-in_err-happens-clause-err
returns-in_err-happens-clause-err g c f p before s w =
    let n = g.W.Wire.events c.args.wire.now in
    let x = c.args.self.now in
    let reported = g.W.Wire.log c.args.wire.now in
    let reported' = g.W.Wire.log c.next.new.self in
    let stages = g.W.Wire.stages c.args.wire.now in
    let stages' = g.W.Wire.stages c.next.new.self in
    let fits : FitsIn c.in_ok-moment.event 16384 = subst (FitsIn c.in_ok-moment.event) c.requires.slice c.in_ok-moment.ensures.fits in
    let many : n + 1 ≤ 2 ^ 45 = (let a = c.in_ok-moment.ensures.events in let b = c.in_ok-moment.ensures.in_all in omega arith) in
    on_err c.from_residual-in_err-happens.result _
    (goes.stops_early n f x p before reported reported' stages stages' s c.args.wait c.in_ok-moment.moment c.in_ok-moment.event c.next.new.into
    c.in_ok-moment.ensures.of_open c.in_ok-moment.ensures.stages fits c.in_ok-moment.ensures.moment many c.in_ok-moment.ensures.ok w c.happens.new.self
    (g.K.Sink.taken c.args.log.now))

pub returns-in_err-moment-clause-err : goal.returns-in_err-moment-clause-err
returns-in_err-moment-clause-err g c f p before s w =
    let reported = g.W.Wire.log c.args.wire.now in
    let reported' = g.W.Wire.log c.next.new.self in
    on_err c.from_residual.result _
    (goes.stops_before (g.W.Wire.events c.args.wire.now) f c.args.self.now p before reported (g.W.Wire.stages c.args.wire.now) s reported'
    c.in_err-moment.ensures.err (g.K.Sink.taken c.args.log.now))
