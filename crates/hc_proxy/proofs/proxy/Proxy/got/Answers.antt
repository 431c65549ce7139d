use Rattle.hc_proxy.proofs.GotBytes.{sent_goes, got_goes}
use Rattle.hc_proxy.proofs.proxy.Proxy.got.Goals as goal

pub returns-in_ok-receive-in-Some-clause-goes : goal.returns-in_ok-receive-in-Some-clause-goes
returns-in_ok-receive-in-Some-clause-goes g c = λ t p h call.
    got_goes t c.args.self.now p c.args.k h c.args.bytes.now call c.in-Some.x c.in-Some.ensures.some c.receive.new.self
    c.in_ok-receive-in-Some.ensures.ok c.in_ok-receive-in-Some.ensures.news c.in_ok-receive-in-Some.ensures.touched

pub returns-in_ok-receive-in-None-clause-goes : goal.returns-in_ok-receive-in-None-clause-goes
returns-in_ok-receive-in-None-clause-goes g c = λ t p h call.
    sent_goes t c.args.self.now p c.args.k h c.args.bytes.now c.in-None.ensures.none c.receive-in-None.new.self c.in_ok-receive-in-None.ensures
