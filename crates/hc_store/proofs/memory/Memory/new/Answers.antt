use Rattle.std.proofs.Common.{refl, sym}
use Rattle.hc_store.specs.Entries.{slots_of}
use Rattle.hc_store.proofs.Weights.{weight-none}
use Rattle.hc_store.proofs.memory.Memory.new.Goals as goal

pub invariant_of-result : goal.invariant_of-result
invariant_of-result c = record { weighs = sym (weight-none (slots_of c.new.result) (λ n. rw c.new.ensures.empty refl)) }
