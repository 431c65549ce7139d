use Rattle.std.proofs.Common.{refl, sym, ◌∙◌}
use mathlib.Core.Path.{fun_ext}
use Rattle.hc_record.specs.Plain.{plain}
use Rattle.hc_store.specs.{Entries.{slots_of}, Slots.{rewrites}}
use Rattle.hc_store.proofs.Weights.{weight-tried}
use Rattle.hc_store.proofs.memory.MemoryBackend.write_record.Goals as goal

pub invariant_of-self : goal.invariant_of-self
invariant_of-self c = record {
  weighs = c.args.self.now.weighs ∙
      sym (weight-tried c.rewrite_in.result (slots_of c.args.self.now.entries) (slots_of c.rewrite_in.new.entries) c.args.slot.n
      (rewrites (plain c.args.head.now)) c.rewrite_in.ensures.number (λ h. refl) c.rewrite_in.ensures.ok c.rewrite_in.ensures.err);
}

pub returns-clause-ok : goal.returns-clause-ok
returns-clause-ok c = fun_ext c.in_ok-rewrite_in.ensures.ok
