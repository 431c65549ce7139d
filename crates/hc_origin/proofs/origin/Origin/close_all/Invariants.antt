use Rattle.std.{proofs.Common.{◌≡◌, Bool}, specs.BTreeMap.{btree_map_len}}
use Rattle.hc_wire.specs.Logs.{Log}
use Rattle.hc_origin.specs.{Keeping.{Follows}, Going.{GoesTo, IsEnding, asking_in}}
use Rattle.hc_origin.proofs.origin.Origin.close_all.Given as goal

abbrev pub invariant-loop-k : goal.invariant-loop-k
invariant-loop-k g l =
    ((reports : Bool) (log : Log) → Follows reports (g.W.Wire.log l.fn.wire) (g.W.Wire.stages l.fn.wire) log →
    IsEnding log (asking_in l.fn.self) l.fn.self.answering.items
    → GoesTo reports log (g.W.Wire.log l.wire) (g.W.Wire.stages l.wire) (λ next. IsEnding next (asking_in l.self) l.self.answering.items))
    × (g.W.Wire.faults l.wire ≡ g.W.Wire.faults l.fn.wire)

abbrev pub decreases-loop-k : goal.decreases-loop-k
decreases-loop-k g l = btree_map_len l.self.asking
