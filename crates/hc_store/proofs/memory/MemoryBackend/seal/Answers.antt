use Rattle.std.proofs.Common.{refl, sym, ◌∙◌}
use mathlib.Core.Path.{fun_ext}
use Rattle.hc_store.specs.{Entries.{slots_of}, Slots.{seals}}
use Rattle.hc_store.proofs.Weights.{weight-kept}
use Rattle.hc_store.proofs.memory.MemoryBackend.seal.Goals as goal

pub invariant_of-self : goal.invariant_of-self
invariant_of-self c = record {
  weighs = c.args.self.now.weighs ∙
      sym (weight-kept (slots_of c.args.self.now.entries) (slots_of c.seal_in.new.entries) c.args.slot.n (seals c.args.kind c.args.total)
      c.seal_in.ensures.number (λ h. refl) c.seal_in.ensures.ok);
}

pub returns-clause-ok : goal.returns-clause-ok
returns-clause-ok c = fun_ext c.seal_in.ensures.ok
