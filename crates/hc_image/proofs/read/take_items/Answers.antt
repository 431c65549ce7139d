use Rattle.std.proofs.Common.{arith, map}
use Rattle.hc_contents.specs.PlainContents.{plain_item}
use Rattle.hc_image.proofs.Lists.{no_items, one_more_item}
use Rattle.hc_image.proofs.read.take_items.Goals as goal

pub returns-in_default : goal.returns-in_default
returns-in_default c = λ items whole after are.
    let read = c.loop.invariant in
    no_items (map plain_item c.loop.items) c.args.count read.part c.loop.rest c.args.rest.now read.spells (omega (arith, c.loop-test.true, read.count_is))
    read.text_is (rw c.in_default.is at c.in_ok-item.ensures) items whole after are

pub loop-preserved : goal.loop-preserved
loop-preserved c =
    let some = rw c.in-Some.is at c.in_ok-item.ensures in
    let pushed = c.in_ok-push.ensures.ok in
    rw pushed (one_more_item c.loop.items c.in-Some.item c.loop.counter some.0 c.loop.rest c.take_item.new.rest c.args.rest.now c.loop.invariant some.1 some.2)
