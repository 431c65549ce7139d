use Rattle.std.proofs.Common.{◌≡◌, ◌≤◌, ◌-◌, length, take, drop}
use Rattle.hc_sparse.proofs.growing.GrowingBytes.copied.Given as goal

abbrev pub invariant-loop-bytes : goal.invariant-loop-bytes
invariant-loop-bytes l = (length l.bytes.items ≤ l.len) × (l.bytes.items ≡ take (length l.bytes.items) (drop l.from l.self))

abbrev pub decreases-loop-bytes : goal.decreases-loop-bytes
decreases-loop-bytes l = l.len - length l.bytes.items
