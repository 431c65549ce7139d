use Rattle.hc_sparse.proofs.PartLemmas.{part-of}
use Rattle.hc_sparse.proofs.parts.part_of.Goals as goal

pub returns-in-Some-clause-whole : goal.returns-in-Some-clause-whole
returns-in-Some-clause-whole g c =
    let is = rw c.if-of-x.true at c.in-Some.ensures.some in
    rw c.first_of.ensures (part-of (g.P.Parts.kept c.args.kept.now) c.args.p c.args.x c.in-Some.bytes.now c.args.most is)
