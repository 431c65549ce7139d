use Rattle.std.proofs.Common.{◌+◌, ◌*◌, None, arith}
use Rattle.hc_bench.specs.Stores.{slots_in}
use Rattle.hc_bench.proofs.Live.{live-after, empty-after}
use Rattle.hc_bench.proofs.stores.put_rounds.Goals as goal

pub loop-round-preserved : goal.loop-round-preserved
loop-round-preserved c = (
  live-after (slots_in c.loop-round.store) (slots_in c.put.new.self) c.args.slot.n _ c.loop-round.invariant.0 c.in_ok-put.ensures.ok,
  λ p from. empty-after (slots_in c.loop-round.store) (slots_in c.put.new.self) c.args.slot.n (100 * c.loop-round.round) 1 c.args.bytes.now None p
      (omega (arith, c.requires.bytes)) (c.loop-round.invariant.1 p (omega arith)) c.in_ok-put.ensures.ok,
)
