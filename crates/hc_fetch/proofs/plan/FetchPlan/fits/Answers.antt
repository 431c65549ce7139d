use Rattle.std.{proofs.Common.{◌∙◌, ap}, specs.Prelude.{is_some}}
use Rattle.hc_fetch.proofs.Deciders.{fits_part}
use Rattle.hc_fetch.proofs.plan.FetchPlan.fits.Goals as goal

pub returns-then-self-ne1 : goal.returns-then-self-ne1
returns-then-self-ne1 c = λ before r is.
    c.is_some.ensures ∙ (ap is_some (c.total_of.ensures c.args.c r)
    ∙ fits_part c.args.self.now before (record { c = c.args.c; r = r; status = c.args.status; fields = c.args.fields.now }) c.if-c-eq1.true
    c.if-status-eq200.false c.if-self-ne1.true)
