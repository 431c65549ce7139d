use Rattle.std.proofs.Common.{◌≡◌, Some}
use Rattle.hc_wire.specs.{Logs.{empty_log}, Plays.{reported}}
use Rattle.hc_test_proxy.proofs.trial.wire_of.Given as goal

abbrev pub invariant-loop-stall : goal.invariant-loop-stall
invariant-loop-stall l = reported l.wire ≡ Some empty_log
