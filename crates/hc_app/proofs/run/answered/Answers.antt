use Rattle.std.proofs.Common.{sym, subst}
use Rattle.hc_sched.specs.declared.schedule.Ended.{Ended}
use Rattle.hc_app.specs.declared.status.Status.TheVariants as status
use Rattle.hc_app.specs.Answering.{IsEndedAs, done, unwired, wanting}
use Rattle.hc_app.proofs.run.answered.Goals as goal

pub returns-in-Done : goal.returns-in-Done
returns-in-Done c = subst (λ (e : Ended). IsEndedAs e status.Done) (sym c.in-Done.is) done

pub returns-in-WireFailed : goal.returns-in-WireFailed
returns-in-WireFailed c = subst (λ (e : Ended). IsEndedAs e status.WireFailed) (sym c.in-WireFailed.is) unwired

pub returns-in-NoMemory : goal.returns-in-NoMemory
returns-in-NoMemory c = subst (λ (e : Ended). IsEndedAs e status.NoMemory) (sym c.in-NoMemory.is) wanting
