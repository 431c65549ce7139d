use Rattle.hc_driver.proofs.ReportSteps.{ends_stepped}
use Rattle.hc_driver.proofs.through.step_through.Goals as goal

pub returns-clause-ends : goal.returns-clause-ends
returns-clause-ends g c = ends_stepped g.T.Stepper.answers g.T.Stepper.spent _ _ _ _ _ _ _ _ c.go_through.ensures.ends
