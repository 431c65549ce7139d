use Rattle.std.proofs.Common.{sym, subst}
use Rattle.hc_saving.specs.declared.open.OpenEnded.{OpenEnded}
use Rattle.hc_app.specs.Opening as opening
use Rattle.hc_app.specs.Opening.{ConcludesOpen}
use Rattle.hc_app.proofs.Opened.{refusal_reported, refusal_unreported}
use Rattle.hc_app.proofs.run.conclude_open.Goals as goal

pub returns-in-Ok : goal.returns-in-Ok
returns-in-Ok g c = refusal_reported _ _ _ _ c.args.end c.in_default.not-Ran c.in-Ok.ensures.said c.in-Ok.ensures.calm

pub returns-in-Err : goal.returns-in-Err
returns-in-Err g c = rw c.stopped.ensures
    (refusal_unreported _ _ _ _ c.args.end c.in_default.not-Ran _ c.say_image.ensures.front c.in-Err.ensures.cause.failed c.in-Err.ensures.no_fault)

pub returns : goal.returns
returns g c = subst (λ (e : OpenEnded). ConcludesOpen (g.D.Sink.taken c.args.diag.now) (g.D.Sink.taken c.conclude.new.diag)
    (g.D.Sink.faults c.args.diag.now) (g.D.Sink.faults c.conclude.new.diag) e c.conclude.result) (sym c.in-Ran.is) (opening.ran _ _ c.conclude.ensures)
