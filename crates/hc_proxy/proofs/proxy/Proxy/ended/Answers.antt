use Rattle.hc_proxy.proofs.GotBytes.{end_goes}
use Rattle.hc_proxy.proofs.proxy.Proxy.ended.Goals as goal

pub returns-in_ok-end-in-Some-clause-goes : goal.returns-in_ok-end-in-Some-clause-goes
returns-in_ok-end-in-Some-clause-goes g c = λ t p h.
    end_goes t c.args.self.now p c.args.k h c.in-Some.x c.in-Some.ensures.some c.end.new.self
    c.in_ok-end-in-Some.ensures.ok c.in_ok-end-in-Some.ensures.news c.in_ok-end-in-Some.ensures.touched
