use Rattle.hc_proxy.proofs.RoundOnly.{rests_round}
use Rattle.hc_proxy.proofs.proxy.Proxy.waits.Goals as goal

pub returns-clause-rests : goal.returns-clause-rests
returns-clause-rests g c = λ f p before r. rests_round f c.args.self.now c.hears_something.new.self p before c.hears_something.ensures.rest r

pub returns-in_err-hears_something-clause-rests : goal.returns-in_err-hears_something-clause-rests
returns-in_err-hears_something-clause-rests g c =
    λ f p before r. rests_round f c.args.self.now c.hears_something.new.self p before c.hears_something.ensures.rest r
