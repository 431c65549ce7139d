use Rattle.std.proofs.Common.{◌≡◌}
use Rattle.hc_effects.proofs.Vocabulary.{left_of}
use Rattle.hc_wire.specs.Logs.{Log}
use Rattle.hc_proxy.specs.{Keeping.{Turn, KeepsPolled}, Underway.{OnWire, IsUnderway}}
use Rattle.hc_proxy.specs.Rows as rows
use Rattle.hc_proxy.proofs.proxy.Proxy.carry_out.Given as goal

abbrev pub invariant-loop-act : goal.invariant-loop-act
invariant-loop-act g l =
    (goal.iterator-loop-act g).can_next l.act-iterator ×
    (goal.iterator-loop-act g).is_finite l.act-iterator ×
    ((t : Turn) (p : rows.Proxy) (log : Log) → KeepsPolled t l.fn.self p → OnWire t log (g.W.Wire.log l.fn.wire) (g.W.Wire.stages l.fn.wire)
    → IsUnderway t p log (left_of l.act-iterator) l.self (g.W.Wire.log l.wire) (g.W.Wire.stages l.wire)) ×
    (l.self.cache ≡ l.fn.self.cache) ×
    (g.W.Wire.events l.wire ≡ g.W.Wire.events l.fn.wire) ×
    (g.W.Wire.faults l.wire ≡ g.W.Wire.faults l.fn.wire)
