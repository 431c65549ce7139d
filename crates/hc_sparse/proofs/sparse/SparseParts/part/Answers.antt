use Rattle.hc_sparse.specs.Places.{marks_at}
use Rattle.hc_sparse.proofs.BlockLemmas.{kept-within}
use Rattle.hc_sparse.proofs.sparse.SparseParts.part.Goals as goal

pub extent-requires : goal.extent-requires
extent-requires c = kept-within (marks_at c.args.self.now.places) c.args.self.now.bytes c.args.self.now.within c.args.self.now.counts
