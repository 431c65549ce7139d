use Rattle.std.proofs.Common.{sym, subst}
use Rattle.hc_sched.specs.declared.schedule.Ended.{Ended}
use Rattle.hc_app.specs.declared.status.Status.TheVariants as status
use Rattle.hc_app.specs.Serving.{IsServedAs, done, unwired, unwritten, wanting}
use Rattle.hc_app.proofs.run.served.Goals as goal

pub returns-in-Done : goal.returns-in-Done
returns-in-Done c = subst (λ (e : Ended). IsServedAs e status.Done) (sym c.in-Done.is) done

pub returns-in-WireFailed : goal.returns-in-WireFailed
returns-in-WireFailed c = subst (λ (e : Ended). IsServedAs e status.WireFailed) (sym c.in-WireFailed.is) unwired

pub returns-in-SinkFailed : goal.returns-in-SinkFailed
returns-in-SinkFailed c = subst (λ (e : Ended). IsServedAs e status.SinkFailed) (sym c.in-SinkFailed.is) unwritten

pub returns-in-NoMemory : goal.returns-in-NoMemory
returns-in-NoMemory c = subst (λ (e : Ended). IsServedAs e status.NoMemory) (sym c.in-NoMemory.is) wanting
