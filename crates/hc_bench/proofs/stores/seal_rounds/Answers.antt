use Rattle.hc_bench.specs.Stores.{slots_in}
use Rattle.hc_bench.proofs.Live.{live-after}
use Rattle.hc_bench.proofs.stores.seal_rounds.Goals as goal

pub loop-round-preserved : goal.loop-round-preserved
loop-round-preserved c = live-after (slots_in c.loop-round.store) (slots_in c.seal.new.self) c.args.slot.n _ c.loop-round.invariant c.in_ok-seal.ensures.ok
