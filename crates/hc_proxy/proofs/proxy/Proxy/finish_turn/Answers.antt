-- What `finish_turn` needs of its calls, and what it answers where each of them fails, or none does.
--
-- The record is written, acts are carried out, and what is owed is sent. What is kept is so behind each call
-- (`written_keeps`, `written_wire`), so the next one may be made. Where one fails the turn is cut short there
-- (`cut_writing`, `cut_carrying`, `cut_sending`). The cause of the first is the sink's, that of the others the wire's
-- (`by_sink`, `by_wire`). Where none fails the turn is made (`finishes`).
use Rattle.std.proofs.{Common.{Bool, Err, ap, sym, subst}, Math.Logic.{∥∥₁_map}}
use Rattle.hc_proxy.specs.{Carrying.{carried}, Records.{text_of}, Serving.{HasCauses}, Stops.{of_sink}}
use Rattle.hc_proxy.proofs.{Causes.{err_is, by_sink, by_wire}, FinishGoes.{writing, behind, written_keeps, written_wire, cut_writing, cut_carrying, cut_sending, cut_waiting, finishes}}
use Rattle.hc_proxy.proofs.proxy.Proxy.finish_turn.Goals as goal
use Rattle.hc_record.proofs.JoiningLemmas.{on_err}

pub returns-in_err-write-clause-err : goal.returns-in_err-write-clause-err
returns-in_err-write-clause-err g c = λ t p before k on.
    on_err c.from_residual.result _
    (cut_writing t p before c.args.self.now k (g.W.Wire.log c.args.wire.now) (g.W.Wire.stages c.args.wire.now) on (g.K.Sink.taken c.args.log.now)
    (g.K.Sink.taken c.write.new.log) c.in_err-write.ensures.front)

pub returns-in_err-write-clause-causes : goal.returns-in_err-write-clause-causes
returns-in_err-write-clause-causes g c =
    let e = c.in_err-write.field-0.0 in
    subst (HasCauses (g.W.Wire.faults c.args.wire.now) (g.W.Wire.faults c.args.wire.now) (g.K.Sink.faults c.args.log.now)
    (g.K.Sink.faults c.write.new.log)) (sym (err_is c.from_residual.result (of_sink e) c.from_residual.ensures.1))
    (by_sink (g.W.Wire.faults c.args.wire.now) (g.K.Sink.faults c.args.log.now) (g.K.Sink.faults c.write.new.log) e c.in_err-write.ensures.cause
    (λ is. c.in_err-write.ensures.no_fault (ap Err is)))

pub carry_out-requires : goal.carry_out-requires
carry_out-requires g c = record {
  stands = ∥∥₁_map c.requires.polled (λ s. (
    writing s.0 (text_of c.args.self.now.record),
    s.1,
    s.2,
    written_keeps s.0 s.1 c.args.self.now s.3 c.write.new.self c.in_ok-write.ensures.empty c.in_ok-write.ensures.last,
    written_wire s.0 (text_of c.args.self.now.record) s.2 (g.W.Wire.log c.args.wire.now) (g.W.Wire.stages c.args.wire.now) s.4,
  ));
}

pub returns-in_err-carry_out-clause-err : goal.returns-in_err-carry_out-clause-err
returns-in_err-carry_out-clause-err g c = λ t p before k on.
    let y = c.args.self.now in
    let reported = g.W.Wire.log c.args.wire.now in
    let stages = g.W.Wire.stages c.args.wire.now in
    let k' = written_keeps t p y k c.write.new.self c.in_ok-write.ensures.empty c.in_ok-write.ensures.last in
    let on' = written_wire t (text_of y.record) before reported stages on in
    on_err c.from_residual-in_err-carry_out.result _
    (cut_carrying t p before y k reported stages on (g.K.Sink.taken c.args.log.now) (g.K.Sink.taken c.write.new.log) c.in_ok-write.ensures.ok
    (g.W.Wire.log c.carry_out.new.wire) (g.W.Wire.stages c.carry_out.new.wire)
    (c.in_err-carry_out.ensures.err (writing t (text_of y.record)) p before k' on'))

pub returns-in_err-carry_out-clause-causes : goal.returns-in_err-carry_out-clause-causes
returns-in_err-carry_out-clause-causes g c =
    let e = c.in_err-carry_out.field-0.0 in
    subst (HasCauses (g.W.Wire.faults c.args.wire.now) (g.W.Wire.faults c.carry_out.new.wire) (g.K.Sink.faults c.args.log.now)
    (g.K.Sink.faults c.write.new.log)) (sym (err_is c.from_residual-in_err-carry_out.result e c.from_residual-in_err-carry_out.ensures.1))
    (by_wire (g.W.Wire.faults c.args.wire.now) (g.W.Wire.faults c.carry_out.new.wire) (g.K.Sink.faults c.args.log.now) (g.K.Sink.faults c.write.new.log) e
    c.in_err-carry_out.ensures.cause c.in_ok-write.ensures.calm)

pub returns-in_err-send-clause-err : goal.returns-in_err-send-clause-err
returns-in_err-send-clause-err g c = λ t p before k on.
    let y = c.args.self.now in
    let reported = g.W.Wire.log c.args.wire.now in
    let stages = g.W.Wire.stages c.args.wire.now in
    let out = g.K.Sink.taken c.args.log.now in
    let out' = g.K.Sink.taken c.write.new.log in
    let takes = c.in_ok-write.ensures.ok in
    let reported1 = g.W.Wire.log c.carry_out.new.wire in
    let stages1 = g.W.Wire.stages c.carry_out.new.wire in
    let k' = written_keeps t p y k c.write.new.self c.in_ok-write.ensures.empty c.in_ok-write.ensures.last in
    let on' = written_wire t (text_of y.record) before reported stages on in
    let co = c.in_ok-carry_out.ensures.ok (writing t (text_of y.record)) p before k' on' in
    on_err c.from_residual-in_err-send.result _
    (cut_sending t p before y k reported stages on out out' takes reported1 stages1 c.carry_out.new.self co (g.W.Wire.log c.send.new.wire)
    (c.in_err-send.ensures.err (behind t p before y k reported stages on out out' takes reported1 stages1 c.carry_out.new.self co) (carried p) co.log'
    co.keeps co.on_wire))

pub returns-in_err-send-clause-causes : goal.returns-in_err-send-clause-causes
returns-in_err-send-clause-causes g c =
    let e = c.in_err-send.field-0.0 in
    subst (HasCauses (g.W.Wire.faults c.args.wire.now) (g.W.Wire.faults c.send.new.wire) (g.K.Sink.faults c.args.log.now)
    (g.K.Sink.faults c.write.new.log)) (sym (err_is c.from_residual-in_err-send.result e c.from_residual-in_err-send.ensures.1))
    (subst (λ w. HasCauses {T = Bool} w (g.W.Wire.faults c.send.new.wire) (g.K.Sink.faults c.args.log.now) (g.K.Sink.faults c.write.new.log) (Err e))
    c.in_ok-carry_out.ensures.cause.calm
    (by_wire (g.W.Wire.faults c.carry_out.new.wire) (g.W.Wire.faults c.send.new.wire) (g.K.Sink.faults c.args.log.now) (g.K.Sink.faults c.write.new.log) e
    c.in_err-send.ensures.cause c.in_ok-write.ensures.calm))

pub returns-clause-ok : goal.returns-clause-ok
returns-clause-ok g c = λ t p before k on.
    let y = c.args.self.now in
    let reported = g.W.Wire.log c.args.wire.now in
    let stages = g.W.Wire.stages c.args.wire.now in
    let out = g.K.Sink.taken c.args.log.now in
    let out' = g.K.Sink.taken c.write.new.log in
    let takes = c.in_ok-write.ensures.ok in
    let reported1 = g.W.Wire.log c.carry_out.new.wire in
    let stages1 = g.W.Wire.stages c.carry_out.new.wire in
    let reported2 = g.W.Wire.log c.send.new.wire in
    let stages2 = g.W.Wire.stages c.send.new.wire in
    let k' = written_keeps t p y k c.write.new.self c.in_ok-write.ensures.empty c.in_ok-write.ensures.last in
    let on' = written_wire t (text_of y.record) before reported stages on in
    let co = c.in_ok-carry_out.ensures.ok (writing t (text_of y.record)) p before k' on' in
    let turn = behind t p before y k reported stages on out out' takes reported1 stages1 c.carry_out.new.self co in
    let a = c.in_ok-send.ensures.ok turn (carried p) co.log' co.keeps co.on_wire in
    finishes t p before y k reported stages on out out' takes reported1 stages1 c.carry_out.new.self co c.send.new.self reported2 stages2 a c.waits.new.self _
    (c.waits.ensures.rests turn.frame (carried p) a.log' a.rests) (c.in_ok-waits.ensures.waits turn.frame (carried p) a.log' a.rests)

pub returns-in_err-waits-clause-err : goal.returns-in_err-waits-clause-err
returns-in_err-waits-clause-err g c = λ t p before k on.
    let y = c.args.self.now in
    let reported = g.W.Wire.log c.args.wire.now in
    let stages = g.W.Wire.stages c.args.wire.now in
    let out = g.K.Sink.taken c.args.log.now in
    let out' = g.K.Sink.taken c.write.new.log in
    let takes = c.in_ok-write.ensures.ok in
    let reported1 = g.W.Wire.log c.carry_out.new.wire in
    let stages1 = g.W.Wire.stages c.carry_out.new.wire in
    let reported2 = g.W.Wire.log c.send.new.wire in
    let stages2 = g.W.Wire.stages c.send.new.wire in
    let k' = written_keeps t p y k c.write.new.self c.in_ok-write.ensures.empty c.in_ok-write.ensures.last in
    let on' = written_wire t (text_of y.record) before reported stages on in
    let co = c.in_ok-carry_out.ensures.ok (writing t (text_of y.record)) p before k' on' in
    let turn = behind t p before y k reported stages on out out' takes reported1 stages1 c.carry_out.new.self co in
    let a = c.in_ok-send.ensures.ok turn (carried p) co.log' co.keeps co.on_wire in
    on_err c.from_residual-in_err-waits.result _
    (cut_waiting t p before y k reported stages on out out' takes reported1 stages1 c.carry_out.new.self co c.send.new.self reported2 stages2 a)
