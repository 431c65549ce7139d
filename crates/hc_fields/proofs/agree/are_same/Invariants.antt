use Rattle.std.proofs.Common.{◌≡◌, ◌↔◌, length}
use Rattle.hc_fields.specs.Joined.{all_values, bytes_left}
use Rattle.hc_fields.proofs.agree.are_same.Given as goal

abbrev pub invariant-loop-a : goal.invariant-loop-a
invariant-loop-a l = record {
  a_count : l.a.count ≡ length (all_values l.a);
  b_count : l.b.count ≡ length (all_values l.b);
  same : (bytes_left l.a ≡ bytes_left l.b) ↔ (bytes_left l.fn.a ≡ bytes_left l.fn.b);
}

abbrev pub decreases-loop-a : goal.decreases-loop-a
decreases-loop-a l = length (bytes_left l.a)
