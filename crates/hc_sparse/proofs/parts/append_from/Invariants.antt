use Rattle.std.proofs.Common.{◌≡◌, ◌≤◌, ◌-◌, ◌++◌, length}
use Rattle.hc_sparse.specs.Stretch.{bytes_from}
use Rattle.hc_sparse.proofs.parts.append_from.Given as goal

abbrev pub invariant-loop-bytes : goal.invariant-loop-bytes
invariant-loop-bytes g l = (length l.bytes.items ≤ l.want) ×
    (l.bytes.items ++ bytes_from (g.P.Parts.kept l.kept) l.x l.from (l.want - length l.bytes.items) ≡ bytes_from (g.P.Parts.kept l.kept) l.x l.p l.want)

abbrev pub decreases-loop-bytes : goal.decreases-loop-bytes
decreases-loop-bytes g l = l.want - length l.bytes.items
