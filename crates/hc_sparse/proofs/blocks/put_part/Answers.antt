use Rattle.std.proofs.Common.{sym, ◌∙◌}
use Rattle.hc_sparse.proofs.BlockLemmas.{free-here}
use Rattle.hc_sparse.proofs.blocks.put_part.Goals as goal

pub claim-requires-clause-free : goal.claim-requires-clause-free
claim-requires-clause-free c = λ q ge lt.
    c.make_room.ensures.marks q ∙
    free-here c.args.blocks.now c.args.new.at c.args.new.len c.in-Some.block.now (sym c.in-Some.ensures.value) c.requires.within c.requires.free q ge lt
