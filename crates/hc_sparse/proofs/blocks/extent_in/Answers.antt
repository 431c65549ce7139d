use Rattle.std.proofs.Common.{sym}
use Rattle.hc_sparse.proofs.BlockLemmas.{extent-here}
use Rattle.hc_sparse.proofs.blocks.extent_in.Goals as goal

pub returns-clause-some : goal.returns-clause-some
returns-clause-some c =
    let found = c.in_ok-extent.ensures.some in
    rw c.rest_of.ensures (extent-here c.args.blocks.now c.args.p c.in_ok-get.field-0.now c.in_ok-extent.extent c.requires.below
    (sym c.in_ok-get.ensures.value) found.0 found.1)
