use Rattle.hc_driver.proofs.ReportSteps.{lacks_text}
use Rattle.hc_driver.proofs.reporting.AnyCourse.go.Goals as goal

pub returns-clause-lacks : goal.returns-clause-lacks
returns-clause-lacks g c = lacks_text g.T.Stepper.answers g.T.Stepper.spent _ _ _ _ _ _ _ c.write_acts.result c.in_ok-step.ensures.answered
