use Rattle.std.{proofs.Common.{nat_eq}, specs.HashMap.{get}}
use Rattle.hc_on_head.proofs.HeadViews.{merely_ordered, range_ordered}
use Rattle.hc_state.proofs.Maps.{lent}
use Rattle.hc_on_head.proofs.found.part_founded.Goals as goal

pub wanted_of-requires : goal.wanted_of-requires
wanted_of-requires g c =
    let r = c.args.rows.now in
    let k = c.unwrap-consumer.result.now in
    let at = lent c.get.result (get nat_eq r.consumers c.args.c) c.unwrap-consumer.result c.get.ensures.value c.unwrap-consumer.ensures in
    merely_ordered k.class.range c.requires.stands (λ s. range_ordered r s.t c.args.c k at s.rows)
