use Rattle.hc_app.specs.Concluding.{done, unreadable, unwritten, wanting}
use Rattle.hc_app.proofs.Concluded.{is_quiet, is_reported, is_unreported}
use Rattle.hc_app.proofs.run.conclude.Goals as goal

pub returns-in-Done : goal.returns-in-Done
returns-in-Done g c = is_quiet _ _ c.args.end _ _ c.in-Done.is done

pub returns-in-Ok : goal.returns-in-Ok
returns-in-Ok g c = is_reported _ _ _ _ c.args.end c.in-Refused.refused c.in-Refused.is c.in-Ok.ensures.said c.in-Ok.ensures.calm

pub returns-in-Err : goal.returns-in-Err
returns-in-Err g c = rw c.stopped.ensures
    (is_unreported _ _ _ _ c.args.end c.in-Refused.refused _ c.in-Refused.is c.say_refusal.ensures.front c.in-Err.ensures.cause.failed
    c.in-Err.ensures.no_fault)

pub returns-in-SourceFailed : goal.returns-in-SourceFailed
returns-in-SourceFailed g c = is_quiet _ _ c.args.end _ _ c.in-SourceFailed.is unreadable

pub returns-in-SinkFailed : goal.returns-in-SinkFailed
returns-in-SinkFailed g c = is_quiet _ _ c.args.end _ _ c.in-SinkFailed.is unwritten

pub returns-in-NoMemory : goal.returns-in-NoMemory
returns-in-NoMemory g c = is_quiet _ _ c.args.end _ _ c.in-NoMemory.is wanting
