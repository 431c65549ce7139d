use Rattle.std.proofs.Common.{arith}
use Rattle.hc_origin.proofs.Runs.{all-letters, letters-more}
use Rattle.hc_origin.proofs.letters.Letters.new.Goals as goal

pub loop-position-preserved : goal.loop-position-preserved
loop-position-preserved c =
    letters-more c.loop-position.bytes.items c.push.new.self.items c.loop-position.position _ c.loop-position.invariant c.in_ok-push.ensures.items
    c.origin_byte.ensures

pub invariant_of-result : goal.invariant_of-result
invariant_of-result c = record { are = all-letters c.loop-position.bytes.items c.loop-position.position c.loop-position.invariant (omega arith) }
