use Rattle.hc_driver.proofs.Runs.{ends_as, ends_cut_short, ends_done}
use Rattle.hc_driver.proofs.through.run.Goals as goal

pub returns-in_err-feed-clause-ends : goal.returns-in_err-feed-clause-ends
returns-in_err-feed-clause-ends g c =
    ends_as _ c.args.moment _ _ c.in_err-feed.field-0.0 c.from_residual.result c.in_err-feed.ensures.breaks c.from_residual.ensures.1

pub returns-in_err-finish-clause-ends : goal.returns-in_err-finish-clause-ends
returns-in_err-finish-clause-ends g c =
    ends_cut_short g.C.Course.reports g.C.Course.over g.C.Course.spent _ _ _ c.in_ok-feed.feed _ _ _ _ c.finish.result c.in_ok-feed.ensures.read
    c.finish.ensures.value
    c.in_err-finish.field-0.0 c.from_residual-in_err-finish.result c.in_err-finish.was c.from_residual-in_err-finish.ensures.1

pub returns-clause-ends : goal.returns-clause-ends
returns-clause-ends g c =
    ends_done g.C.Course.reports g.C.Course.over g.C.Course.spent _ _ _ c.in_ok-feed.feed _ _ _ _ c.finish.result c.in_ok-feed.ensures.read
    c.finish.ensures.value c.in_ok-finish.was
