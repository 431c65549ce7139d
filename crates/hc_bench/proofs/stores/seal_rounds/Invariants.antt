use Rattle.std.proofs.Common.{◌≡◌, true}
use Rattle.hc_store.specs.Slots.{is_live}
use Rattle.hc_bench.specs.Stores.{slots_in}
use Rattle.hc_bench.proofs.stores.seal_rounds.Given as goal

abbrev pub invariant-loop-round : goal.invariant-loop-round
invariant-loop-round l = is_live (slots_in l.store) l.slot.n ≡ true
