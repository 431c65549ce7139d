use Rattle.std.{proofs.Common.{◌≡◌, ◌+◌, sym, ap, arith}, specs.Prelude.{is_some}}
use Rattle.hc_sparse.specs.{BlockMaps.{cells_by, cell_of}, Places.{marks_at}, Sparse.{sparse_cells}}
use Rattle.hc_sparse.proofs.{StretchLemmas.{stretch-only}, BlockLemmas.{kept-within, whole-longest, on-err}}
use Rattle.hc_sparse.proofs.sparse.SparseSparseBytes.run_at.Goals as goal

pub joined_at-requires-clause-within : goal.joined_at-requires-clause-within
joined_at-requires-clause-within c = kept-within (marks_at c.args.self.now.places) c.args.self.now.bytes c.args.self.now.within c.args.self.now.counts

pub returns-in_err-bytes-clause-no_memory : goal.returns-in_err-bytes-clause-no_memory
unfolding sparse_cells
returns-in_err-bytes-clause-no_memory c =
    let is = c.in-Some.ensures in
    let some = is.extent.some in
    let at-p : c.args.p + 0 ≡ c.args.p = omega arith in
    on-err c.from_residual.result _ (ap (λ o. is_some (cell_of c.args.self.now.bytes o)) (rw at-p at (is.extent.each 0 some)))

pub returns-clause-ok : goal.returns-clause-ok
unfolding sparse_cells
returns-clause-ok c =
    let cells = cells_by (marks_at c.args.self.now.places) c.args.self.now.bytes in
    rw c.in_ok-bytes.ensures
    (sym (stretch-only cells c.args.p c.args.want _
    (whole-longest (marks_at c.args.self.now.places) c.args.self.now.bytes c.args.p c.args.want c.in-Some.whole c.args.self.now.within c.in-Some.ensures)))
