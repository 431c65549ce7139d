use Rattle.hc_driver.proofs.Spelled.{within_limits_spelled}
use Rattle.hc_driver.proofs.answering.Answering.go.Goals as goal

pub go-requires-clause-within_limits : goal.go-requires-clause-within_limits
go-requires-clause-within_limits g c = within_limits_spelled c.args.event.now c.requires.spelled
