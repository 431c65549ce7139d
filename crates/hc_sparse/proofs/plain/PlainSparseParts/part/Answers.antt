use Rattle.hc_sparse.proofs.PartLemmas.{run-is_part}
use Rattle.hc_sparse.proofs.plain.PlainSparseParts.part.Goals as goal

pub returns-clause-some : goal.returns-clause-some
returns-clause-some c =
    let has = rw c.as_slice.ensures.value at c.in_ok-run.ensures.some in
    rw c.rest_of.ensures (run-is_part c.args.self.now.runs.items c.args.p c.in_ok-run.run'.now has.0 has.1)
