use Rattle.std.proofs.Common.{◌≤◌, ◌^◌}
use Rattle.hc_sched.specs.Feeding.{lines_in}
use Rattle.hc_bench.proofs.schedules.read_into.Given as goal

-- each line has a byte
abbrev pub invariant-loop : goal.invariant-loop
invariant-loop g l = (lines_in l.feed ≤ g.S.Source.given l.source) × (lines_in l.feed ≤ 2 ^ 60)
