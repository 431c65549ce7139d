-- The lists stand in order in every run.
use Rattle.hc_laws.proofs.OrderRuns.{order_in_runs}
use Rattle.hc_laws.proofs.laws.lists_are_in_order.Goals as goal

pub returns : goal.returns
returns c = order_in_runs
