use Rattle.std.proofs.Common.{refl, sym}
use Rattle.hc_sparse.proofs.SizeLemmas.{size-none}
use Rattle.hc_sparse.specs.Runs.{cells_of}
use Rattle.hc_sparse.proofs.plain.PlainSparse.new.Goals as goal

pub invariant_of-result-clause-ascends : goal.invariant_of-result-clause-ascends
invariant_of-result-clause-ascends c = rw c.new.ensures.items refl

pub invariant_of-result-clause-counts : goal.invariant_of-result-clause-counts
invariant_of-result-clause-counts c = sym (size-none (cells_of c.new.result.items) (λ p. rw c.new.ensures.items refl))
