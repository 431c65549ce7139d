use Rattle.std.{proofs.Common.{nat_eq}, specs.HashMap.{get}}
use Rattle.hc_on_head.proofs.HeadViews.{merely_ordered, range_ordered}
use Rattle.hc_state.proofs.Maps.{lent}
use Rattle.hc_on_head.proofs.head.case_of.Goals as goal

pub fits_to_found-requires : goal.fits_to_found-requires
fits_to_found-requires g c =
    let r = c.args.rows.now in
    let k = c.unwrap-consumer.result.now in
    let at = lent c.get.result (get nat_eq r.consumers c.args.heard.c) c.unwrap-consumer.result c.get.ensures.value c.unwrap-consumer.ensures in
    merely_ordered k.class.range c.requires.stands (λ s. range_ordered r s.t c.args.heard.c k at s.rows)
