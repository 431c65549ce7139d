use Rattle.std.{proofs.Common.{◌∙◌, ap}, specs.Prelude.{is_some}}
use Rattle.hc_fetch.proofs.Deciders.{shown_as, decides_other, decides_status}
use Rattle.hc_fetch.proofs.plan.FetchPlan.decision.Goals as goal

pub returns-then-fits-clause-decides : goal.returns-then-fits-clause-decides
returns-then-fits-clause-decides c = λ before is.
    decides_other c.args.self.now before (record { c = c.args.c; r = c.args.r; status = c.args.status; fields = c.args.fields.now }) c.args.first is
    c.fits.result c.other.result
    (c.fits.ensures before c.args.r (c.is_some.ensures ∙ (ap is_some is ∙ shown_as before))) c.if-fits.true c.other.ensures.decides

pub returns-else-fits-clause-decides : goal.returns-else-fits-clause-decides
returns-else-fits-clause-decides c = λ before is.
    decides_status c.args.self.now before (record { c = c.args.c; r = c.args.r; status = c.args.status; fields = c.args.fields.now }) c.args.first is
    c.fits.result
    (c.fits.ensures before c.args.r (c.is_some.ensures ∙ (ap is_some is ∙ shown_as before))) c.if-fits.false
