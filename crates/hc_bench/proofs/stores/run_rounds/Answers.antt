use Rattle.std.proofs.Common.{ap, ◌∙◌}
use Rattle.hc_store.specs.Slots.{Slots, is_live}
use Rattle.hc_bench.proofs.stores.run_rounds.Goals as goal

pub loop-round-preserved : goal.loop-round-preserved
loop-round-preserved c = ap (λ (s : Slots). is_live s c.args.slot.n) c.in_ok-run.ensures.same ∙ c.loop-round.invariant
