use Rattle.hc_image.proofs.Lists.{items_next}
use Rattle.hc_image.proofs.write.write_items.Goals as goal

pub loop-item-preserved : goal.loop-item-preserved
loop-item-preserved c =
    items_next c.args.to.now.items c.loop-item.to.items c.write_item.new.to.items c.args.items.now c.loop-item.item-index c.item-item.result
    c.loop-item-test.true c.item-item.is c.loop-item.invariant c.in_ok-write_item.ensures
