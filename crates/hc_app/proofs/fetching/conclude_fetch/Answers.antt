use Rattle.std.proofs.Common.{refl}
use Rattle.hc_sched.specs.declared.schedule.Ended.TheVariants as ended
use Rattle.hc_fetch.specs.declared.ended.FetchEnded.TheVariants as fetched
use Rattle.hc_app.specs.declared.status.Status.TheVariants as status
use Rattle.hc_app.specs.Concluding as concluding
use Rattle.hc_app.specs.Fetching as fetching
use Rattle.hc_app.proofs.Fetched.{ended_as, is_stopped, stopped_reported, stopped_unreported}
use Rattle.hc_app.proofs.fetching.conclude_fetch.Goals as goal

pub returns-in-Done : goal.returns-in-Done
returns-in-Done g c = ended_as _ _ _ _ c.args.end (fetched.Done c.in-Done.total) ended.Done status.Done c.in-Done.is (fetching.done c.in-Done.total)
    (concluding.quiet ended.Done status.Done concluding.done refl refl)

pub returns-in-Refused : goal.returns-in-Refused
returns-in-Refused g c =
    ended_as _ _ _ _ c.args.end (fetched.Refused c.in-Refused.refused) (ended.Refused c.in-Refused.refused) c.conclude.result c.in-Refused.is
    (fetching.refused c.in-Refused.refused) c.conclude.ensures

pub returns-in-SourceFailed : goal.returns-in-SourceFailed
returns-in-SourceFailed g c =
    ended_as _ _ _ _ c.args.end fetched.SourceFailed ended.SourceFailed status.SourceFailed c.in-SourceFailed.is fetching.unreadable
    (concluding.quiet ended.SourceFailed status.SourceFailed concluding.unreadable refl refl)

pub returns-in-SinkFailed : goal.returns-in-SinkFailed
returns-in-SinkFailed g c =
    ended_as _ _ _ _ c.args.end fetched.SinkFailed ended.SinkFailed status.SinkFailed c.in-SinkFailed.is fetching.unwritten
    (concluding.quiet ended.SinkFailed status.SinkFailed concluding.unwritten refl refl)

pub returns-in-NoMemory : goal.returns-in-NoMemory
returns-in-NoMemory g c =
    ended_as _ _ _ _ c.args.end fetched.NoMemory ended.NoMemory status.NoMemory c.in-NoMemory.is fetching.wanting
    (concluding.quiet ended.NoMemory status.NoMemory concluding.wanting refl refl)

pub returns-in-Ok : goal.returns-in-Ok
returns-in-Ok g c =
    stopped_reported _ _ _ _ c.args.end
    (is_stopped c.args.end c.in_default.not-Done c.in_default.not-Refused c.in_default.not-SourceFailed c.in_default.not-SinkFailed
    c.in_default.not-NoMemory) c.in-Ok.ensures.said c.in-Ok.ensures.calm

pub returns-in-Err : goal.returns-in-Err
returns-in-Err g c =
    rw c.stopped.ensures
    (stopped_unreported _ _ _ _ c.args.end
    (is_stopped c.args.end c.in_default.not-Done c.in_default.not-Refused c.in_default.not-SourceFailed c.in_default.not-SinkFailed
    c.in_default.not-NoMemory) _ c.say_fetch.ensures.front c.in-Err.ensures.cause.failed c.in-Err.ensures.no_fault)
