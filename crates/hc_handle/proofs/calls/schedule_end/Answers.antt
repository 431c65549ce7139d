use Rattle.std.proofs.Common.{rules}
use Rattle.hc_handle.proofs.Coming.{finishes_none}
use Rattle.hc_handle.proofs.calls.schedule_end.Goals as goal

pub returns-in_default-clause-finished : goal.returns-in_default-clause-finished
returns-in_default-clause-finished c = finishes_none _ _ (search rules) (search rules)
