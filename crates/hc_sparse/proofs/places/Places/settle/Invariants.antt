use Rattle.hc_sparse.specs.Places.{KeepsMarks}
use Rattle.hc_sparse.proofs.places.Places.settle.Given as goal

abbrev pub invariant-loop-self : goal.invariant-loop-self
invariant-loop-self l = KeepsMarks l.initial.self l.self

abbrev pub decreases-loop-self : goal.decreases-loop-self
decreases-loop-self l = l.self.tail.len
