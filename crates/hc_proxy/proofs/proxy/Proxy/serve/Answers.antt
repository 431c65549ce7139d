use Rattle.std.proofs.{Common.{◌≡◌, ◌≤◌, ◌<◌, ℕ, refl, ap, sym, ◌∙◌, subst, arith}, Math.Logic.{∥∥₁_map}}
use Rattle.hc_sched.specs.declared.schedule.Ended.TheVariants as ended
use Rattle.hc_proxy.specs.{Rows.{unused}, Serving.{EndsBy, HasCauses}, Waiting.{waits}}
use Rattle.hc_proxy.proofs.{Causes.{err_is, calm_ok, calm_err, causes_as, causes_from, wire_kept, sink_kept}, LoopGoes.{first_waits, turning_begins, turning_on, turning_stops, turning_wants, turning_ends, writing_begins, writing_on, writing_stops, writing_wants, writing_ends}}
use Rattle.hc_proxy.proofs.proxy.Proxy.serve.Goals as goal

pub loop-turn-init : goal.loop-turn-init
loop-turn-init g c = (
  ∥∥₁_map c.requires.begins (λ s. (s.0, unused s.0.setting, s.1, s.2.still, first_waits s.0.limits s.0.setting)),
  λ none f before b. turning_begins (g.W.Wire.events c.args.wire.now) f c.args.self.now before (g.W.Wire.log c.args.wire.now)
      (g.W.Wire.stages c.args.wire.now) (g.K.Sink.taken c.args.log.now) b,
  refl,
  refl,
  omega arith,
  λ f before b. writing_begins (g.W.Wire.events c.args.wire.now) f c.args.self.now before (g.W.Wire.log c.args.wire.now)
      (g.W.Wire.stages c.args.wire.now) (g.K.Sink.taken c.args.log.now) b,
)

pub turn-requires-clause-ready : goal.turn-requires-clause-ready
turn-requires-clause-ready g c = c.loop-turn.invariant.0

pub loop-turn-preserved : goal.loop-turn-preserved
loop-turn-preserved g c = (
  ∥∥₁_map c.loop-turn.invariant.0 (λ s.
      let to = c.in_ok-wait.ensures.ok s.0 s.1 s.2 s.3 s.4 in
      (to.f', to.p', to.log', to.still, to.again_is ∙ ap (λ l. waits l to.p') (sym to.limits))),
  λ none f before b.
      let t = c.loop-turn.invariant.1 none f before b in
      turning_on (g.W.Wire.events c.loop-turn.wire) c.loop-turn._turn f.limits f.setting before c.loop-turn.self (g.W.Wire.log c.loop-turn.wire)
      (g.W.Wire.stages c.loop-turn.wire) (g.K.Sink.taken c.args.log.now) (g.K.Sink.taken c.loop-turn.log) c.loop-turn.wait t
      (g.W.Wire.events c.turn.new.wire) c.turn.new.self (g.W.Wire.log c.turn.new.wire) (g.W.Wire.stages c.turn.new.wire) (g.K.Sink.taken c.turn.new.log) _
      (c.in_ok-wait.ensures.ok t.f t.p t.log t.still t.wait_is) (none _ _),
  wire_kept (g.W.Wire.faults c.loop-turn.wire) (g.W.Wire.faults c.turn.new.wire) (g.K.Sink.faults c.loop-turn.log) (g.K.Sink.faults c.turn.new.log) _
      c.in_ok-wait.ensures.causes ∙ c.loop-turn.invariant.2,
  sink_kept (g.W.Wire.faults c.loop-turn.wire) (g.W.Wire.faults c.turn.new.wire) (g.K.Sink.faults c.loop-turn.log) (g.K.Sink.faults c.turn.new.log) _
      c.in_ok-wait.ensures.causes ∙ c.loop-turn.invariant.3,
  (let lt : c.loop-turn._turn < c.args.turns = c.loop-turn-test.true in omega arith),
  λ f before b.
      let w = c.loop-turn.invariant.5 f before b in
      writing_on (g.W.Wire.events c.loop-turn.wire) f.limits f.setting.contents c.loop-turn.self (g.W.Wire.log c.loop-turn.wire)
      (g.W.Wire.stages c.loop-turn.wire) (g.K.Sink.taken c.args.log.now) (g.K.Sink.taken c.loop-turn.log) c.loop-turn.wait w
      (g.W.Wire.events c.turn.new.wire) c.turn.new.self (g.W.Wire.log c.turn.new.wire) (g.W.Wire.stages c.turn.new.wire) (g.K.Sink.taken c.turn.new.log) _
      (c.in_ok-wait.ensures.ok w.f w.p w.log w.still w.wait_is),
)

pub returns-in_err-wait-clause-serves : goal.returns-in_err-wait-clause-serves
returns-in_err-wait-clause-serves g c = λ none f before b.
    let t = c.loop-turn.invariant.1 none f before b in
    turning_stops (g.W.Wire.events c.loop-turn.wire) c.loop-turn._turn f.limits f.setting before c.loop-turn.self (g.W.Wire.log c.loop-turn.wire)
    (g.W.Wire.stages c.loop-turn.wire) (g.K.Sink.taken c.args.log.now) (g.K.Sink.taken c.loop-turn.log) c.loop-turn.wait t
    c.args.turns c.turn.new.self (g.W.Wire.log c.turn.new.wire) (g.K.Sink.taken c.turn.new.log) _ c.from_residual.result c.from_residual.ensures.1
    c.loop-turn-test.true
    (c.in_err-wait.ensures.err t.f t.p t.log t.still t.wait_is) (none _ _)

pub returns-in_err-wait-clause-recorded : goal.returns-in_err-wait-clause-recorded
returns-in_err-wait-clause-recorded g c = λ f before b.
    let w = c.loop-turn.invariant.5 f before b in
    writing_stops (g.W.Wire.events c.loop-turn.wire) f.limits f.setting.contents c.loop-turn.self (g.W.Wire.log c.loop-turn.wire)
    (g.W.Wire.stages c.loop-turn.wire) (g.K.Sink.taken c.args.log.now) (g.K.Sink.taken c.loop-turn.log) c.loop-turn.wait w
    c.turn.new.self (g.W.Wire.log c.turn.new.wire) (g.K.Sink.taken c.turn.new.log) _ c.from_residual.result c.from_residual.ensures.1
    (c.in_err-wait.ensures.err w.f w.p w.log w.still w.wait_is)

pub returns-in_err-wait-clause-causes : goal.returns-in_err-wait-clause-causes
returns-in_err-wait-clause-causes g c =
    let e = c.in_err-wait.field-0.0 in
    causes_from (g.W.Wire.faults c.args.wire.now) (g.W.Wire.faults c.loop-turn.wire) (g.W.Wire.faults c.turn.new.wire) (g.K.Sink.faults c.args.log.now)
    (g.K.Sink.faults c.loop-turn.log) (g.K.Sink.faults c.turn.new.log) c.from_residual.result
    c.loop-turn.invariant.2 c.loop-turn.invariant.3
    (subst (HasCauses (g.W.Wire.faults c.loop-turn.wire) (g.W.Wire.faults c.turn.new.wire) (g.K.Sink.faults c.loop-turn.log)
    (g.K.Sink.faults c.turn.new.log)) (sym (err_is c.from_residual.result e c.from_residual.ensures.1))
    (causes_as (g.W.Wire.faults c.loop-turn.wire) (g.W.Wire.faults c.turn.new.wire) (g.K.Sink.faults c.loop-turn.log) (g.K.Sink.faults c.turn.new.log) e
    c.in_err-wait.ensures.causes))

pub returns-in_err-leave-clause-serves : goal.returns-in_err-leave-clause-serves
returns-in_err-leave-clause-serves g c = λ none f before b.
    let t = c.loop-turn.invariant.1 none f before b in
    turning_wants (g.W.Wire.events c.loop-turn.wire) c.loop-turn._turn f.limits f.setting before c.loop-turn.self (g.W.Wire.log c.loop-turn.wire)
    (g.W.Wire.stages c.loop-turn.wire) (g.K.Sink.taken c.args.log.now) (g.K.Sink.taken c.loop-turn.log) c.loop-turn.wait t
    c.args.turns (g.W.Wire.log c.leave.new.wire) _ c.from_residual-in_err-leave.result c.from_residual-in_err-leave.ensures.1 c.loop-turn.invariant.4
    c.in_err-leave.ensures.err

pub returns-in_err-leave-clause-recorded : goal.returns-in_err-leave-clause-recorded
returns-in_err-leave-clause-recorded g c = λ f before b.
    writing_wants (g.W.Wire.events c.loop-turn.wire) f.limits f.setting.contents c.loop-turn.self (g.W.Wire.log c.loop-turn.wire)
    (g.W.Wire.stages c.loop-turn.wire) (g.K.Sink.taken c.args.log.now) (g.K.Sink.taken c.loop-turn.log) c.loop-turn.wait
    (c.loop-turn.invariant.5 f before b) _ c.from_residual-in_err-leave.result c.from_residual-in_err-leave.ensures.1

pub returns-in_err-leave-clause-causes : goal.returns-in_err-leave-clause-causes
returns-in_err-leave-clause-causes g c =
    calm_err (g.W.Wire.faults c.args.wire.now) (g.W.Wire.faults c.leave.new.wire) (g.K.Sink.faults c.args.log.now) (g.K.Sink.faults c.loop-turn.log)
    c.from_residual-in_err-leave.result
    (err_is c.from_residual-in_err-leave.result _ c.from_residual-in_err-leave.ensures.1) (c.in_err-leave.ensures.faults ∙ c.loop-turn.invariant.2)
    c.loop-turn.invariant.3

pub returns-clause-serves : goal.returns-clause-serves
returns-clause-serves g c = λ none f before b.
    let t = c.loop-turn.invariant.1 none f before b in
    let all : c.loop-turn._turn ≡ c.args.turns =
    (let le : c.loop-turn._turn ≤ c.args.turns = c.loop-turn.invariant.4 in let over : c.args.turns ≤ c.loop-turn._turn = c.loop-turn-test.false in
    omega arith) in
    subst (λ (k : ℕ). EndsBy f.limits f.setting k before (g.W.Wire.log c.leave.new.wire) (g.K.Sink.taken c.args.log.now) (g.K.Sink.taken c.loop-turn.log)
    ended.Done) all
    (turning_ends (g.W.Wire.events c.loop-turn.wire) c.loop-turn._turn f.limits f.setting before c.loop-turn.self (g.W.Wire.log c.loop-turn.wire)
    (g.W.Wire.stages c.loop-turn.wire) (g.K.Sink.taken c.args.log.now) (g.K.Sink.taken c.loop-turn.log) c.loop-turn.wait t
    (g.W.Wire.log c.leave.new.wire) (c.in_ok-leave.ensures.ok t.f t.p t.log t.still.rests t.still.follows))

pub returns-clause-recorded : goal.returns-clause-recorded
returns-clause-recorded g c = λ f before b.
    writing_ends (g.W.Wire.events c.loop-turn.wire) f.limits f.setting.contents c.loop-turn.self (g.W.Wire.log c.loop-turn.wire)
    (g.W.Wire.stages c.loop-turn.wire) (g.K.Sink.taken c.args.log.now) (g.K.Sink.taken c.loop-turn.log) c.loop-turn.wait
    (c.loop-turn.invariant.5 f before b)

pub returns-clause-causes : goal.returns-clause-causes
returns-clause-causes g c =
    calm_ok (g.W.Wire.faults c.args.wire.now) (g.W.Wire.faults c.leave.new.wire) (g.K.Sink.faults c.args.log.now) (g.K.Sink.faults c.loop-turn.log) _
    (c.in_ok-leave.ensures.faults ∙ c.loop-turn.invariant.2) c.loop-turn.invariant.3
