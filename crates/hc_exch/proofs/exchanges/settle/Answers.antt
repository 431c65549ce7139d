use Rattle.hc_exch.proofs.AgreementLemmas.{agrees-same}
use Rattle.hc_exch.proofs.exchanges.settle.Goals as goal

pub returns-clause-agree : goal.returns-clause-agree
returns-clause-agree c = agrees-same _ _ _ c.tidy_in.ensures.same c.list.ensures
