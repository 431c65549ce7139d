use Rattle.std.proofs.Common.{◌≡◌, ℕ, ◌*◌, ◌≤◌, true, None}
use Rattle.hc_store.specs.Slots.{is_live, cells_in}
use Rattle.hc_bench.specs.Stores.{slots_in}
use Rattle.hc_bench.proofs.stores.put_rounds.Given as goal

abbrev pub invariant-loop-round : goal.invariant-loop-round
invariant-loop-round l = (is_live (slots_in l.store) l.slot.n ≡ true) × ((p : ℕ) → 100 * l.round ≤ p → cells_in (slots_in l.store) l.slot.n p ≡ None)
