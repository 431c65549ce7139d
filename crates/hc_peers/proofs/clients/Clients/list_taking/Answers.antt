use Rattle.std.{proofs.{Common.{sym, ap, ◌∙◌}, lemmas.Map.Iter.{btree_map_turn, rest_more}}, specs.{Cmp.{nat_cmp_total}, Prelude.{nat_eq}, Map.Iter.{deref_pair}}}
use Rattle.std.specs.HashMap as hash
use Rattle.hc_peers.specs.Clients.{takes_more, is_taking}
use Rattle.hc_peers.proofs.{Listing.{list-more, list-less}, Rows.{live-there}}
use Rattle.hc_peers.proofs.clients.Clients.list_taking.Goals as goal

pub has_all-requires : goal.has_all-requires
has_all-requires c =
    let s = c.args.self.now in
    let k = c.in-Some.k.now in
    let turn = btree_map_turn deref_pair c.loop-c.yielded c.into_iter-c-iterator.result c.loop-c.c-iterator c.next.new.self c.next.result
    (c.in-Some.c, c.in-Some.k)
    c.loop-c.yielded_by c.in-Some.is c.next.ensures.steps nat_cmp_total s.live
    (c.into_iter-c-iterator.ensures.into_iter_gives ∙ c.iter-c-items.ensures.rest) c.iter-c-items.ensures.ordered in
    live-there (hash.get nat_eq s.rows k) c.in-Some.c.now (s.alive.0 c.in-Some.c.now k turn.1)

pub loop-c-preserved-in-Continue-1 : goal.loop-c-preserved-in-Continue-1
loop-c-preserved-in-Continue-1 c =
    let s = c.args.self.now in
    let turn = btree_map_turn deref_pair c.loop-c.yielded c.into_iter-c-iterator.result c.loop-c.c-iterator c.next.new.self c.next.result
    (c.in-Some.c, c.in-Some.k)
    c.loop-c.yielded_by c.in-Some.is c.next.ensures.steps nat_cmp_total s.live
    (c.into_iter-c-iterator.ensures.into_iter_gives ∙ c.iter-c-items.ensures.rest) c.iter-c-items.ensures.ordered in
    list-more (takes_more s) c.loop-c.to.items c.push.new.self.items _ c.loop-c.c-iterator c.next.new.self (deref_pair (c.in-Some.c, c.in-Some.k))
    (rest_more deref_pair c.loop-c.c-iterator c.next.new.self c.next.result (c.in-Some.c, c.in-Some.k) c.in-Some.is c.next.ensures.steps) c.loop-c.invariant
    (ap (is_taking s) turn.1 ∙ (sym c.has_all.ensures ∙ c.if-has_all.true)) c.in_ok-push.ensures.items

pub loop-c-preserved : goal.loop-c-preserved
loop-c-preserved c =
    let s = c.args.self.now in
    let turn = btree_map_turn deref_pair c.loop-c.yielded c.into_iter-c-iterator.result c.loop-c.c-iterator c.next.new.self c.next.result
    (c.in-Some.c, c.in-Some.k)
    c.loop-c.yielded_by c.in-Some.is c.next.ensures.steps nat_cmp_total s.live
    (c.into_iter-c-iterator.ensures.into_iter_gives ∙ c.iter-c-items.ensures.rest) c.iter-c-items.ensures.ordered in
    list-less (takes_more s) c.loop-c.to.items _ c.loop-c.c-iterator c.next.new.self (deref_pair (c.in-Some.c, c.in-Some.k))
    (rest_more deref_pair c.loop-c.c-iterator c.next.new.self c.next.result (c.in-Some.c, c.in-Some.k) c.in-Some.is c.next.ensures.steps) c.loop-c.invariant
    (ap (is_taking s) turn.1 ∙ (sym c.has_all.ensures ∙ c.if-has_all.false))
