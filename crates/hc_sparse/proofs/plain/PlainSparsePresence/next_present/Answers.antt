use Rattle.std.proofs.Common.{arith}
use Rattle.hc_sparse.proofs.RunLemmas.{next-is}
use Rattle.hc_sparse.proofs.plain.PlainSparsePresence.next_present.Goals as goal

pub returns-clause-next : goal.returns-clause-next
returns-clause-next c =
    let has = rw c.as_slice.ensures.value at c.in_ok-run.ensures.some in
    next-is c.args.self.now.runs.items c.args.p c.max.result c.in_ok-run.run'.now has c.max.ensures

pub returns-clause-below : goal.returns-clause-below
returns-clause-below c =
    let has = c.in_ok-run.ensures.some in
    let some = has.some in
    let past = has.past in
    let end = has.end in
    let is = c.max.ensures in
    omega arith
