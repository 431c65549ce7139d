use Rattle.hc_image.proofs.Lists.{AreRead}
use Rattle.hc_image.proofs.read.take_items.Given as goal

abbrev pub invariant-loop : goal.invariant-loop
invariant-loop l = AreRead l.items l.counter l.rest l.initial.rest
