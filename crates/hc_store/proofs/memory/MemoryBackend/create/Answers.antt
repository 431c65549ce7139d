use Rattle.std.proofs.Common.{◌≡◌, ◌+◌, sym, ◌∙◌, ap, rules}
use Rattle.hc_record.specs.Plain.{plain}
use Rattle.hc_store.specs.{Entries.{slots_of}, Slots.{weight}}
use Rattle.hc_store.proofs.Weights.{weight-new}
use Rattle.hc_store.proofs.memory.MemoryBackend.create.Goals as goal

pub overflow_add-self : goal.overflow_add-self
overflow_add-self c = let fits = c.is_full.ensures.fits c.if-is_full.false in search rules

pub invariant_of-self-2 : goal.invariant_of-self-2
invariant_of-self-2 c =
    let new = weight-new (slots_of c.args.self.now.entries) (slots_of c.keep_in.new.entries) c.in_ok-n.n (plain c.args.head.now) c.in_ok-n.ensures.number
    c.in_ok-n.ensures.new c.in_ok-n.ensures.ok in
    let was : c.args.self.now.used ≡ weight (slots_of c.args.self.now.entries) = c.args.self.now.weighs in
    record { weighs = ap (λ k. k + 32768) was ∙ sym new }
