use Rattle.hc_sparse.specs.BlockMaps.{marks}
use Rattle.hc_sparse.proofs.places.Places.new.Goals as goal

pub invariant_of-result-clause-had : goal.invariant_of-result-clause-had
invariant_of-result-clause-had c = c.new-2.ensures (marks c.new.result)
