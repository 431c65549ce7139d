use Rattle.std.specs.BTreeMap.{btree_map_len}
use Rattle.hc_sparse.specs.Cells.{Cells}
use Rattle.hc_fetch.specs.Ahead.{Keeps, Appends}
use Rattle.hc_fetch.proofs.gathering.Gathered.write_ahead.Given as goal

abbrev pub invariant-loop-at : goal.invariant-loop-at
invariant-loop-at l = (f : Cells) → Keeps l.fn.self.ahead l.fn.self.written f
    → Keeps l.self.ahead l.self.written f × Appends f l.fn.self.written l.self.written l.fn.text.items l.text.items

abbrev pub decreases-loop-at : goal.decreases-loop-at
decreases-loop-at l = btree_map_len l.self.ahead
