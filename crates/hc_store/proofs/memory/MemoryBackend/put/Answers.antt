use Rattle.std.proofs.Common.{◌≡◌, ◌+◌, sym, ◌∙◌, ap, length, rules}
use Rattle.hc_sparse.specs.Sparse.{sparse_cells}
use Rattle.hc_sparse.proofs.SizeLemmas.{size-le}
use Rattle.hc_store.specs.{Entries.{slots_of}, Slots.{weight}}
use Rattle.hc_store.proofs.Weights.{weight-put}
use Rattle.hc_store.proofs.memory.MemoryBackend.put.Goals as goal

pub overflow_add-size : goal.overflow_add-size
overflow_add-size c = let few = size-le (sparse_cells c.entry_at.result.now.bytes) in let is = c.size.ensures in let end = c.requires.end in search rules

pub overflow_add-self : goal.overflow_add-self
overflow_add-self c = let fits = c.is_full.ensures.fits c.if-is_full.false in search rules

pub invariant_of-self-2 : goal.invariant_of-self-2
invariant_of-self-2 c =
    let more = weight-put (slots_of c.args.self.now.entries) (slots_of c.put_in.new.entries) c.args.slot.n c.args.at c.args.x c.args.bytes.now c.args.last
    c.put_in.ensures.number c.requires.live c.requires.absent c.requires.end c.in_ok-put_in.ensures.ok in
    let was : c.args.self.now.used ≡ weight (slots_of c.args.self.now.entries) = c.args.self.now.weighs in
    record { weighs = ap (λ k. k + length c.args.bytes.now) was ∙ sym more }
