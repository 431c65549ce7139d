use Rattle.std.proofs.Common.{◌+◌, ◌≤◌, length}
use Rattle.hc_sched.specs.Feeding.{lines_in}
use Rattle.hc_test_rules.proofs.schedules.feed_pieces.Given as goal

abbrev pub invariant-loop-fed : goal.invariant-loop-fed
invariant-loop-fed l = lines_in l.feed + length l.rest ≤ lines_in l.fn.feed + length l.fn.text

abbrev pub decreases-loop-fed : goal.decreases-loop-fed
decreases-loop-fed l = length l.rest
