use Rattle.std.proofs.Common.{arith}
use mathlib.Core.Path.{fun_ext}
use Rattle.hc_sparse.specs.{BlockMaps.{cells_by}, Places.{marks_at}, Sparse.{sparse_cells}}
use Rattle.hc_sparse.proofs.{SizeLemmas.{size-le}, BlockLemmas.{IsKept, put-kept, put-cells}}
use Rattle.hc_sparse.proofs.sparse.SparseSparseBytes.put.Goals as goal

kept : (c : goal.After-put_in) → IsKept (marks_at c.put_in.new.places) c.put_in.new.bytes
unfolding sparse_cells
kept c =
    let old : IsKept (marks_at c.args.self.now.places) c.args.self.now.bytes = record { within = c.args.self.now.within; counts = c.args.self.now.counts } in
    put-kept c.put_in.result (marks_at c.args.self.now.places) (marks_at c.put_in.new.places) c.args.self.now.bytes c.put_in.new.bytes c.args.bytes.now
    c.args.at c.args.x old c.requires.absent c.requires.end c.put_in.ensures.marks c.put_in.ensures.bytes c.put_in.ensures.same c.put_in.ensures.kept

pub invariant_of-self-clause-within : goal.invariant_of-self-clause-within
invariant_of-self-clause-within c = (kept c).within

pub invariant_of-self-clause-counts : goal.invariant_of-self-clause-counts
invariant_of-self-clause-counts c = (kept c).counts

pub returns-clause-ok : goal.returns-clause-ok
unfolding sparse_cells
returns-clause-ok c = fun_ext (λ q.
    rw c.in_ok-put_in.ensures.bytes
    (put-cells (marks_at c.args.self.now.places) (marks_at c.put_in.new.places) c.args.self.now.bytes c.args.bytes.now c.args.at c.args.x
    c.args.self.now.within c.in_ok-put_in.ensures.marks q))

pub put_in-requires-clause-small : goal.put_in-requires-clause-small
put_in-requires-clause-small c =
    let counts = c.args.self.now.counts in
    let most = size-le (cells_by (marks_at c.args.self.now.places) c.args.self.now.bytes) in
    let end = c.requires.end in
    omega (arith, counts, most, end)
