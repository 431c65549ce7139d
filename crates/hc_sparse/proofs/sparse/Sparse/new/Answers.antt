use Rattle.std.proofs.Common.{length, refl, sym, ap, ◌∙◌}
use Rattle.hc_sparse.specs.{BlockMaps.{cells_by, cell_of}, Places.{marks_at}}
use Rattle.hc_sparse.proofs.SizeLemmas.{size-none}
use Rattle.hc_sparse.proofs.sparse.Sparse.new.Goals as goal

pub invariant_of-result-clause-within : goal.invariant_of-result-clause-within
invariant_of-result-clause-within c = λ p. rw (c.new.ensures p) refl

pub invariant_of-result-clause-counts : goal.invariant_of-result-clause-counts
invariant_of-result-clause-counts c = ap length c.new-2.ensures ∙
    sym (size-none (cells_by (marks_at c.new.result) c.new-2.result) (λ p. ap (cell_of c.new-2.result) (c.new.ensures p)))
