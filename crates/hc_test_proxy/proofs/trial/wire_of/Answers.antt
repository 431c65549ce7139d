use Rattle.hc_test_proxy.proofs.Unused.{is_unseen, is_fresh}
use Rattle.hc_test_proxy.proofs.trial.wire_of.Goals as goal

pub returns-clause-fresh : goal.returns-clause-fresh
returns-clause-fresh c = is_fresh _ c.loop-stall.invariant

pub returns-clause-unseen : goal.returns-clause-unseen
returns-clause-unseen c = is_unseen c.loop-stall.wire c.loop-stall.invariant
