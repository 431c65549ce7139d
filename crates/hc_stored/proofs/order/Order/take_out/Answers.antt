use Rattle.std.specs.Map.{keys_of}
use Rattle.hc_stored.proofs.OrderLemmas.{keys-removed, distinct-without}
use Rattle.hc_stored.proofs.order.Order.take_out.Goals as goal

pub invariant_of-self : goal.invariant_of-self
invariant_of-self c =
    let es = c.self.inside.cache.entries in
    rw (c.pop.ensures.entries, keys-removed c.args.n es c.self.invariant.1) (c.self.invariant.0, distinct-without c.args.n (keys_of es) c.self.invariant.1)

pub returns : goal.returns
returns c = rw (← c.self.view_is, c.pop.ensures.entries) (keys-removed c.args.n c.self.inside.cache.entries c.self.invariant.1)
