use Rattle.std.proofs.Common.{true}
use Rattle.hc_wire.specs.{Events.{got_bytes}, Logs.{with_call}}
use Rattle.hc_origin.specs.Going.{asking_in}
use Rattle.hc_origin.proofs.{Places.{heard}, Steps.{follows-call}, Turning.{sent-turn, uncalled-turn, unhandled-turn}}
use Rattle.hc_origin.proofs.origin.Origin.turn.Goals as goal

pub returns-in_err-event-clause-turns : goal.returns-in_err-event-clause-turns
returns-in_err-event-clause-turns g c = λ reports log follows rests.
    uncalled-turn reports c.args.self.now log (asking_in c.args.self.now) c.args.self.now.answering.items (g.W.Wire.log c.args.wire.now)
    (g.W.Wire.log c.next.new.self)
    (g.W.Wire.stages c.args.wire.now) (g.W.Wire.stages c.next.new.self) _ c.from_residual.result c.from_residual.ensures.1 follows rests
    c.in_err-event.ensures.err c.in_err-event.ensures.err_stages

pub returns-in_err-handle-clause-turns : goal.returns-in_err-handle-clause-turns
returns-in_err-handle-clause-turns g c = λ reports log follows rests.
    let what = c.in_ok-event.event in
    let moment = c.in_ok-event.field-0-0 in
    let bytes = got_bytes what c.next.new.into in
    let called = with_call true moment what bytes log in
    let behind = follows-call reports (g.W.Wire.log c.args.wire.now) (g.W.Wire.log c.next.new.self) (g.W.Wire.stages c.args.wire.now)
    (g.W.Wire.stages c.next.new.self) log follows
    moment what bytes c.in_ok-event.ensures.of_open c.in_ok-event.ensures.ok c.in_ok-event.ensures.stages in
    let is = heard reports (g.W.Wire.log c.args.wire.now) (g.W.Wire.stages c.args.wire.now) log (asking_in c.args.self.now)
    c.args.self.now.answering.items follows rests
    moment what bytes c.in_ok-event.ensures.of_open in
    unhandled-turn reports c.handle.new.self log (asking_in c.args.self.now) c.args.self.now.answering.items moment what bytes
    (g.W.Wire.log c.handle.new.wire) (g.W.Wire.stages c.handle.new.wire)
    _ c.from_residual-in_err-handle.result c.from_residual-in_err-handle.ensures.1 (c.in_err-handle.ensures.handles reports called behind is) is

pub returns-clause-turns : goal.returns-clause-turns
returns-clause-turns g c = λ reports log follows rests.
    let what = c.in_ok-event.event in
    let moment = c.in_ok-event.field-0-0 in
    let bytes = got_bytes what c.next.new.into in
    let called = with_call true moment what bytes log in
    let behind = follows-call reports (g.W.Wire.log c.args.wire.now) (g.W.Wire.log c.next.new.self) (g.W.Wire.stages c.args.wire.now)
    (g.W.Wire.stages c.next.new.self) log follows
    moment what bytes c.in_ok-event.ensures.of_open c.in_ok-event.ensures.ok c.in_ok-event.ensures.stages in
    let is = heard reports (g.W.Wire.log c.args.wire.now) (g.W.Wire.stages c.args.wire.now) log (asking_in c.args.self.now)
    c.args.self.now.answering.items follows rests
    moment what bytes c.in_ok-event.ensures.of_open in
    let goes = c.in_ok-handle.ensures.handles reports called behind is in
    sent-turn reports c.send_all.new.self log goes.next moment what bytes (g.W.Wire.log c.send_all.new.wire) (g.W.Wire.stages c.send_all.new.wire)
    c.send_all.result
    (c.send_all.ensures.sends reports goes.next goes.follows goes.holds) goes.calls goes.bound
