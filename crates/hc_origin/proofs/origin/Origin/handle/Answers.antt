use Rattle.std.proofs.Common.{subst}
use Rattle.hc_wire.specs.{Events.{got_bytes}, declared.event.WireEvent.{WireEvent}}
use Rattle.hc_origin.specs.Going.{Heard, asking_in}
use Rattle.hc_origin.proofs.origin.Origin.handle.Goals as goal

pub returns-in-Got-clause-handles : goal.returns-in-Got-clause-handles
returns-in-Got-clause-handles g c = λ reports log follows heard.
    let is = subst (λ (e : WireEvent). Heard e (got_bytes e c.args.slice.now) log (asking_in c.args.self.now) c.args.self.now.answering.items) c.in-Got.is
    heard in
    c.read.ensures.handles reports log is.0 follows is.1

pub returns-in-Ended-clause-handles : goal.returns-in-Ended-clause-handles
returns-in-Ended-clause-handles g c = λ reports log follows heard.
    let is = subst (λ (e : WireEvent). Heard e (got_bytes e c.args.slice.now) log (asking_in c.args.self.now) c.args.self.now.answering.items)
    c.in-Ended.is heard in
    c.stop.ensures.handles reports log is.0 follows is.1

pub returns-in-Broke-clause-handles : goal.returns-in-Broke-clause-handles
returns-in-Broke-clause-handles g c = λ reports log follows heard.
    let is = subst (λ (e : WireEvent). Heard e (got_bytes e c.args.slice.now) log (asking_in c.args.self.now) c.args.self.now.answering.items)
    c.in-Broke.is heard in
    c.stop-in-Broke.ensures.handles reports log is.0 follows is.1
