use Rattle.std.proofs.Common.{inl}
use Rattle.hc_driver.proofs.ReportSteps.{on_err}
use Rattle.hc_test_streams.proofs.courses.CountdownCourse.go.Goals as goal

pub returns-in_err-push-clause-lacks : goal.returns-in_err-push-clause-lacks
returns-in_err-push-clause-lacks c = on_err c.from_residual.result (inl tt)
