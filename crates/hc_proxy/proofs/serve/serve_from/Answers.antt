use Rattle.std.proofs.{Common.{◌≡◌, ◌+◌, Ok, Err, refl, ap, sym, ◌∙◌, subst, arith}, Math.Logic.{∥∥₁_map}}
use Rattle.hc_core.specs.Steps.{steps, limits_in, bytes_received}
use Rattle.hc_sched.specs.declared.schedule.Ended.TheVariants as ended
use Rattle.hc_proxy.specs.{Endings.{MayEnd}, Recorded.{Records}, Stops.{ended_by}, Served.{ServesWith}, Rows.{setting_of}}
use Rattle.hc_proxy.proofs.{Causes.{may_end, ends_wire, ends_wire_calm, ends_sink, ends_sink_calm}, LoopGoes.{log_of, frame_of, unused_so, loop_begins, reported_ends, reported_first}}
use Rattle.hc_proxy.proofs.serve.serve_from.Goals as goal

pub serve-requires : goal.serve-requires
serve-requires g c = record {
  begins = ∥∥₁_map c.requires.stocked (λ s.
      let cache = c.args.cache in
      let zero : steps cache + bytes_received cache ≡ 0 = c.requires.unused in (
        frame_of (limits_in cache) (setting_of s.0 c.args.front),
        log_of (g.W.Wire.log c.args.wire.now),
        loop_begins (g.W.Wire.events c.args.wire.now) (limits_in cache) (setting_of s.0 c.args.front) c.new-proxy.result (g.W.Wire.log c.args.wire.now)
            (g.W.Wire.stages c.args.wire.now) c.requires.fresh c.requires.unseen
            (λ log fresh. c.new-proxy.ensures.rests (frame_of (limits_in cache) (setting_of s.0 c.args.front)) log
            (unused_so (limits_in cache) (setting_of s.0 c.args.front) cache c.args.last s.1 refl zero c.requires.few) s.1.last_is refl fresh)
            (ap steps c.new-proxy.ensures.cache ∙ omega arith) c.new-proxy.ensures.written,
      ));
}

pub returns-in-Ok-clause-serves : goal.returns-in-Ok-clause-serves
returns-in-Ok-clause-serves g c = λ none contents stocked.
    let cache = c.args.cache in
    let reported = g.W.Wire.log c.args.wire.now in
    let zero : steps cache + bytes_received cache ≡ 0 = c.requires.unused in
    reported_ends (limits_in cache) (setting_of contents c.args.front) stocked.stands.begins c.args.turns (log_of reported) reported
    (g.W.Wire.log c.serve.new.wire)
    (g.K.Sink.taken c.args.log.now) (g.K.Sink.taken c.serve.new.log) ended.Done (reported_first reported)
    (c.in-Ok.ensures.serves none (frame_of (limits_in cache) (setting_of contents c.args.front)) (log_of reported)
    (loop_begins (g.W.Wire.events c.args.wire.now) (limits_in cache) (setting_of contents c.args.front) c.new-proxy.result reported
    (g.W.Wire.stages c.args.wire.now)
    c.requires.fresh c.requires.unseen
    (λ log fresh. c.new-proxy.ensures.rests (frame_of (limits_in cache) (setting_of contents c.args.front)) log
    (unused_so (limits_in cache) (setting_of contents c.args.front) cache c.args.last stocked refl zero c.requires.few) stocked.last_is refl fresh)
    (ap steps c.new-proxy.ensures.cache ∙ omega arith) c.new-proxy.ensures.written))

pub returns-clause-serves : goal.returns-clause-serves
returns-clause-serves g c = λ none contents stocked.
    let cache = c.args.cache in
    let reported = g.W.Wire.log c.args.wire.now in
    let zero : steps cache + bytes_received cache ≡ 0 = c.requires.unused in
    subst (ServesWith (limits_in cache) (setting_of contents c.args.front) c.args.turns reported (g.W.Wire.log c.serve.new.wire) (g.K.Sink.taken c.args.log.now)
    (g.K.Sink.taken c.serve.new.log)) (sym c.ended.ensures)
    (reported_ends (limits_in cache) (setting_of contents c.args.front) stocked.stands.begins c.args.turns (log_of reported) reported
    (g.W.Wire.log c.serve.new.wire)
    (g.K.Sink.taken c.args.log.now) (g.K.Sink.taken c.serve.new.log) (ended_by c.in-Err.stop) (reported_first reported)
    (c.in-Err.ensures.serves none (frame_of (limits_in cache) (setting_of contents c.args.front)) (log_of reported)
    (loop_begins (g.W.Wire.events c.args.wire.now) (limits_in cache) (setting_of contents c.args.front) c.new-proxy.result reported
    (g.W.Wire.stages c.args.wire.now)
    c.requires.fresh c.requires.unseen
    (λ log fresh. c.new-proxy.ensures.rests (frame_of (limits_in cache) (setting_of contents c.args.front)) log
    (unused_so (limits_in cache) (setting_of contents c.args.front) cache c.args.last stocked refl zero c.requires.few) stocked.last_is refl fresh)
    (ap steps c.new-proxy.ensures.cache ∙ omega arith) c.new-proxy.ensures.written)))

pub returns-in-Ok-clause-recorded : goal.returns-in-Ok-clause-recorded
returns-in-Ok-clause-recorded g c = λ contents stocked.
    let cache = c.args.cache in
    let reported = g.W.Wire.log c.args.wire.now in
    let zero : steps cache + bytes_received cache ≡ 0 = c.requires.unused in
    c.in-Ok.ensures.recorded (frame_of (limits_in cache) (setting_of contents c.args.front)) (log_of reported)
    (loop_begins (g.W.Wire.events c.args.wire.now) (limits_in cache) (setting_of contents c.args.front) c.new-proxy.result reported
    (g.W.Wire.stages c.args.wire.now)
    c.requires.fresh c.requires.unseen
    (λ log fresh. c.new-proxy.ensures.rests (frame_of (limits_in cache) (setting_of contents c.args.front)) log
    (unused_so (limits_in cache) (setting_of contents c.args.front) cache c.args.last stocked refl zero c.requires.few) stocked.last_is refl fresh)
    (ap steps c.new-proxy.ensures.cache ∙ omega arith) c.new-proxy.ensures.written)

pub returns-clause-recorded : goal.returns-clause-recorded
returns-clause-recorded g c = λ contents stocked.
    let cache = c.args.cache in
    let reported = g.W.Wire.log c.args.wire.now in
    let zero : steps cache + bytes_received cache ≡ 0 = c.requires.unused in
    subst (Records (limits_in cache) contents (g.K.Sink.taken c.args.log.now) (g.K.Sink.taken c.serve.new.log)) (sym c.ended.ensures)
    (c.in-Err.ensures.recorded (frame_of (limits_in cache) (setting_of contents c.args.front)) (log_of reported)
    (loop_begins (g.W.Wire.events c.args.wire.now) (limits_in cache) (setting_of contents c.args.front) c.new-proxy.result reported
    (g.W.Wire.stages c.args.wire.now)
    c.requires.fresh c.requires.unseen
    (λ log fresh. c.new-proxy.ensures.rests (frame_of (limits_in cache) (setting_of contents c.args.front)) log
    (unused_so (limits_in cache) (setting_of contents c.args.front) cache c.args.last stocked refl zero c.requires.few) stocked.last_is refl fresh)
    (ap steps c.new-proxy.ensures.cache ∙ omega arith) c.new-proxy.ensures.written))

pub returns-in-Ok-clause-wire_calm : goal.returns-in-Ok-clause-wire_calm
returns-in-Ok-clause-wire_calm g c =
    λ off. ends_wire_calm (g.W.Wire.faults c.args.wire.now) (g.W.Wire.faults c.serve.new.wire) (g.K.Sink.faults c.args.log.now)
    (g.K.Sink.faults c.serve.new.log) (Ok tt) c.in-Ok.ensures.causes off

pub returns-in-Ok-clause-sink_calm : goal.returns-in-Ok-clause-sink_calm
returns-in-Ok-clause-sink_calm g c =
    λ off. ends_sink_calm (g.W.Wire.faults c.args.wire.now) (g.W.Wire.faults c.serve.new.wire) (g.K.Sink.faults c.args.log.now)
    (g.K.Sink.faults c.serve.new.log) (Ok tt) c.in-Ok.ensures.causes off

pub returns-clause-ends : goal.returns-clause-ends
returns-clause-ends g c = subst MayEnd (sym c.ended.ensures) (may_end (Err c.in-Err.stop))

pub returns-clause-wire : goal.returns-clause-wire
returns-clause-wire g c =
    λ is. ends_wire (g.W.Wire.faults c.args.wire.now) (g.W.Wire.faults c.serve.new.wire) (g.K.Sink.faults c.args.log.now)
    (g.K.Sink.faults c.serve.new.log) (Err c.in-Err.stop) c.in-Err.ensures.causes (sym c.ended.ensures ∙ is)

pub returns-clause-wire_calm : goal.returns-clause-wire_calm
returns-clause-wire_calm g c =
    λ off. ends_wire_calm (g.W.Wire.faults c.args.wire.now) (g.W.Wire.faults c.serve.new.wire) (g.K.Sink.faults c.args.log.now)
    (g.K.Sink.faults c.serve.new.log) (Err c.in-Err.stop) c.in-Err.ensures.causes (λ is. off (c.ended.ensures ∙ is))

pub returns-clause-sink : goal.returns-clause-sink
returns-clause-sink g c =
    λ is. ends_sink (g.W.Wire.faults c.args.wire.now) (g.W.Wire.faults c.serve.new.wire) (g.K.Sink.faults c.args.log.now)
    (g.K.Sink.faults c.serve.new.log) (Err c.in-Err.stop) c.in-Err.ensures.causes (sym c.ended.ensures ∙ is)

pub returns-clause-sink_calm : goal.returns-clause-sink_calm
returns-clause-sink_calm g c =
    λ off. ends_sink_calm (g.W.Wire.faults c.args.wire.now) (g.W.Wire.faults c.serve.new.wire) (g.K.Sink.faults c.args.log.now)
    (g.K.Sink.faults c.serve.new.log) (Err c.in-Err.stop) c.in-Err.ensures.causes (λ is. off (c.ended.ensures ∙ is))
