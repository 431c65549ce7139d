use Rattle.std.proofs.Common.{◌∙◌, refl, subst, ℕ}
use Rattle.hc_rules.specs.declared.room.Limits.{Limits}
use Rattle.hc_wire.specs.Wires.{HasRisen}
use Rattle.hc_effects.proofs.Vocabulary.{no_contents}
use Rattle.hc_proxy.specs.{Recorded.{Records}, Served.{ServesAs}}
use Rattle.hc_app.specs.Serving as serving
use Rattle.hc_app.proofs.Served.{never_source, wire_is, wire_off, sink_is, sink_off, unbound_serves}
use Rattle.hc_app.proofs.run.serve.Goals as goal

pub returns-in_default-clause-serves : goal.returns-in_default-clause-serves
returns-in_default-clause-serves g c = serving.wanting_all refl refl

pub returns-in-Ok-bind-clause-serves : goal.returns-in-Ok-bind-clause-serves
returns-in-Ok-bind-clause-serves g c =
    serving.served _ _ _ c.in-Ok-bind.ensures.ok
    (subst (λ (l : Limits). ServesAs l c.args.turns (g.W.Wire.log c.bind.new.self) (g.W.Wire.log c.serve_on.new.wire) (g.K.Sink.taken c.args.out.now)
    (g.K.Sink.taken c.serve_on.new.log) c.serve_on.result)
    c.in-Ok.ensures.limits (c.serve_on.ensures.serves (λ a b. refl)))
    (subst (λ (l : Limits). Records l no_contents (g.K.Sink.taken c.args.out.now) (g.K.Sink.taken c.serve_on.new.log) c.serve_on.result)
    c.in-Ok.ensures.limits c.serve_on.ensures.recorded)
    c.served.ensures

pub returns-in-Ok-bind-clause-unread : goal.returns-in-Ok-bind-clause-unread
returns-in-Ok-bind-clause-unread g c = never_source _ _ c.served.ensures

pub returns-in-Ok-bind-clause-sink_failed : goal.returns-in-Ok-bind-clause-sink_failed
returns-in-Ok-bind-clause-sink_failed g c = λ is. c.serve_on.ensures.sink (sink_is _ _ c.served.ensures is)

pub returns-in-Ok-bind-clause-sink_calm : goal.returns-in-Ok-bind-clause-sink_calm
returns-in-Ok-bind-clause-sink_calm g c = λ off. c.serve_on.ensures.sink_calm (sink_off _ _ c.served.ensures off)

pub returns-in-Ok-bind-clause-wire_faults : goal.returns-in-Ok-bind-clause-wire_faults
returns-in-Ok-bind-clause-wire_faults g c = record {
  failed = λ is. subst (λ (n : ℕ). HasRisen n (g.W.Wire.faults c.serve_on.new.wire)) c.in-Ok-bind.ensures.cause.calm
      (c.serve_on.ensures.wire (wire_is _ _ c.served.ensures is));
  calm = λ off. c.serve_on.ensures.wire_calm (wire_off _ _ c.served.ensures off) ∙ c.in-Ok-bind.ensures.cause.calm;
}

pub returns-in-Err-clause-serves : goal.returns-in-Err-clause-serves
returns-in-Err-clause-serves g c = rw c.unbound.ensures (unbound_serves _ _ _ _ _ _ _ _ c.in-Err.ensures.err refl)
