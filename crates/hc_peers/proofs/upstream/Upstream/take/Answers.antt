use Rattle.hc_peers.proofs.Takings.{taken-part}
use Rattle.hc_peers.proofs.upstream.Upstream.take.Goals as goal

pub returns-in-Ok-clause-takes : goal.returns-in-Ok-clause-takes
returns-in-Ok-clause-takes c =
    let next = rw c.rest.ensures at c.in-Ok.ensures.next in
    let done = rw c.rest.ensures at c.in-Ok.ensures.takes in
    rw c.use_up.ensures (taken-part c.args.self.now c.in-Ok.taken.used c.in-Ok.taken.got _ next done.1)
