use Rattle.hc_sparse.proofs.StretchLemmas.{stretch-absent, stretch-longest, stretch-only}
use Rattle.hc_sparse.proofs.law.a_stretch_is_the_longest.Goals as goal

pub returns-clause-absent : goal.returns-clause-absent
returns-clause-absent c = stretch-absent

pub returns-clause-longest : goal.returns-clause-longest
returns-clause-longest c = stretch-longest

pub returns-clause-only : goal.returns-clause-only
returns-clause-only c = stretch-only
