use Rattle.hc_event.proofs.Draining.{keeps_along}
use Rattle.hc_event.proofs.drain.Drain.new.Goals as goal

pub returns-clause-stays : goal.returns-clause-stays
returns-clause-stays c = keeps_along _
