use Rattle.std.{proofs.Common.{◌≡◌, ◌<◌, ◌≤◌, ◌-◌, ◌^◌, length, false, arith}, specs.Map.{keys_of}}
use Rattle.hc_text.specs.Sorted.{has, itself}
use Rattle.hc_stored.proofs.OrderLemmas.{keys-put, distinct-first}
use Rattle.hc_stored.proofs.order.Order.put_first.Goals as goal

pub invariant_of-self-2 : goal.invariant_of-self-2
invariant_of-self-2 c =
    let cache = c.self.inside.cache in
    let room = c.self.invariant.0 in
    let few : length cache.entries < 2 ^ 63 = rw c.len-count.ensures.len at c.len-count.ensures.fits in
    let fits : length cache.entries ≤ cache.cap - 1 = omega arith in
    let absent : has itself c.args.n (keys_of cache.entries) ≡ false = rw c.self.view_is c.requires in
    rw (c.in_ok-put.ensures.entries, keys-put c.args.n tt cache absent fits)
    (c.self.invariant.0, distinct-first c.args.n (keys_of cache.entries) absent c.self.invariant.1)

pub returns-clause-ok : goal.returns-clause-ok
returns-clause-ok c =
    let cache = c.self.inside.cache in
    let room = c.self.invariant.0 in
    let few : length cache.entries < 2 ^ 63 = rw c.len-count.ensures.len at c.len-count.ensures.fits in
    let fits : length cache.entries ≤ cache.cap - 1 = omega arith in
    let absent : has itself c.args.n (keys_of cache.entries) ≡ false = rw c.self.view_is c.requires in
    rw (← c.self.view_is, c.in_ok-put.ensures.entries) (keys-put c.args.n tt cache absent fits)
