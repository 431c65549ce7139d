use Rattle.std.{proofs.Common.{Option, None, Some, ◌∙◌}, specs.Prelude.{IfSome}}
use Rattle.hc_wire.specs.declared.event.WireEvent.{WireEvent}
use Rattle.hc_sockets.specs.Sockets.{life, IsOfLive}
use Rattle.hc_sockets.proofs.SocketLemmas.{live-same, after-same}
use Rattle.hc_sockets.proofs.table.Table.event.Goals as goal

pub returns-then-is_some-clause-of_live : goal.returns-then-is_some-clause-of_live
returns-then-is_some-clause-of_live c = of c.event_in-event.result.0 c.event_in-event.ensures.of_live where
  of : (o : Option WireEvent) → IfSome o (IsOfLive (life c.loop.self.sockets)) → IfSome o (IsOfLive (life c.args.self.now.sockets))
  of None is = is
  of (Some e) is = live-same (life c.args.self.now.sockets) (life c.loop.self.sockets) c.loop.invariant.1 e is

pub returns-then-is_some-clause-after : goal.returns-then-is_some-clause-after
returns-then-is_some-clause-after c = λ j.
    rw c.queue.ensures (c.event_in-event.ensures.after j
    ∙ after-same (life c.args.self.now.sockets) (life c.loop.self.sockets) c.loop.invariant.1 c.event_in-event.result.0 j)
