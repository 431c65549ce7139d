use Rattle.hc_fetch.proofs.Aheads.{some_taken}
use Rattle.hc_fetch.proofs.gathering.Gathered.take_next.Goals as goal

pub returns-clause-some : goal.returns-clause-some
returns-clause-some c =
    some_taken c.args.self.now.ahead c.pop_first.new.self c.args.self.now.written c.in_ok-at.at.now c.in_ok-at.field-0-1.now c.pop_first.result
    c.in_ok-at.ensures.value c.if-at-self.false c.pop_first.ensures.least c.pop_first.ensures.value c.pop_first.ensures.updates
