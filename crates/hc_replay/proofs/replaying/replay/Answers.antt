use Rattle.hc_replay.proofs.ReportSteps.{replays_all, completes_all}
use Rattle.hc_replay.proofs.replaying.replay.Goals as goal

pub returns-clause-ends : goal.returns-clause-ends
returns-clause-ends g c = replays_all c.args.cache.now _ _ _ _ _ _ _ c.step_through.ensures.ends

pub returns-clause-complete : goal.returns-clause-complete
returns-clause-complete g c = completes_all _ _ _ _ _ c.step_through.ensures.ends
