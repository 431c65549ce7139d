use Rattle.hc_replay.proofs.ReportSteps.{completes_all}
use Rattle.hc_front.proofs.FrontReplayed.{replays_all}
use Rattle.hc_front.proofs.replaying.replay_front.Goals as goal

pub returns-clause-ends : goal.returns-clause-ends
returns-clause-ends g c = replays_all c.args.front.now _ _ _ _ _ _ _ c.step_through.ensures.ends

pub returns-clause-complete : goal.returns-clause-complete
returns-clause-complete g c = completes_all _ _ _ _ _ c.step_through.ensures.ends
