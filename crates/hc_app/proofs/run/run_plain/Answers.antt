use Rattle.hc_app.proofs.Complete.{completes}
use Rattle.hc_app.proofs.run.run_plain.Goals as goal

pub returns-clause-complete : goal.returns-clause-complete
returns-clause-complete g c = completes _ _ _ _ _ _ _ _ _ _ c.run.ensures.ends c.run.ensures.source_failed c.run.ensures.sink_failed
