use Rattle.hc_sparse.proofs.StretchLemmas.{stretch-behind, stretch-of_other, stretch-reaching}
use Rattle.hc_sparse.proofs.law.a_put_lengthens_what_reaches_it.Goals as goal

pub returns-clause-behind : goal.returns-clause-behind
returns-clause-behind c = stretch-behind

pub returns-clause-other : goal.returns-clause-other
returns-clause-other c = stretch-of_other

pub returns-clause-reaches : goal.returns-clause-reaches
returns-clause-reaches c = stretch-reaching
