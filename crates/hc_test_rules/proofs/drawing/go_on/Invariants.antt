use Rattle.std.proofs.Common.{◌+◌, ◌*◌, ◌≤◌}
use Rattle.hc_test_rules.proofs.drawing.go_on.Given as goal

abbrev pub invariant-loop-i : goal.invariant-loop-i
invariant-loop-i l = record {
  moment : l.generator.moment ≤ 1000000 + 30 * l._i;
  last : l.generator.last ≤ l._i;
}
