use Rattle.std.{proofs.Common.{◌≡◌, true}, specs.Map.{keys_of}}
use Rattle.hc_text.specs.Sorted.{has, itself}
use Rattle.hc_stored.proofs.OrderLemmas.{keys-promoted, distinct-promoted}
use Rattle.hc_stored.proofs.order.Order.move_first.Goals as goal

pub invariant_of-self : goal.invariant_of-self
invariant_of-self c =
    let es = c.self.inside.cache.entries in
    let there : has itself c.args.n (keys_of es) ≡ true = rw c.self.view_is c.requires in
    let keys = keys-promoted c.args.n es there c.self.invariant.1 in
    rw (c.promote.ensures.entries, keys) (c.self.invariant.0, distinct-promoted c.args.n (keys_of es) c.self.invariant.1)

pub returns : goal.returns
returns c =
    let es = c.self.inside.cache.entries in
    let there : has itself c.args.n (keys_of es) ≡ true = rw c.self.view_is c.requires in
    rw (← c.self.view_is, c.promote.ensures.entries) (keys-promoted c.args.n es there c.self.invariant.1)
