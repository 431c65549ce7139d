use Rattle.std.proofs.Common.{◌≡◌, ◌+◌, sym, ap, ◌∙◌, length, rules}
use Rattle.hc_sparse.specs.{Cells.{size}, Runs.{cells_of}}
use Rattle.hc_sparse.proofs.SizeLemmas.{size-le, size-put}
use Rattle.hc_sparse.proofs.plain.PlainSparseSparseBytes.put.Goals as goal

pub overflow_add-self : goal.overflow_add-self
overflow_add-self c =
    let few = size-le (cells_of c.args.self.now.runs.items) in
    let count : c.args.self.now.count ≡ size (cells_of c.args.self.now.runs.items) = c.args.self.now.counts in
    let end = c.requires.end in
    search rules

pub invariant_of-self-2-clause-counts : goal.invariant_of-self-2-clause-counts
invariant_of-self-2-clause-counts c =
    let count : c.args.self.now.count ≡ size (cells_of c.args.self.now.runs.items) = c.args.self.now.counts in
    ap (λ n. n + length c.args.bytes.now) count ∙
    sym (size-put (cells_of c.args.self.now.runs.items) (cells_of c.put_run.new.runs.items) c.args.at c.args.x c.args.bytes.now c.in_ok-put_run.ensures.ok
    c.requires.absent c.requires.end)
