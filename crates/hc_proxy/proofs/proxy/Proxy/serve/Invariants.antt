use Rattle.std.proofs.Common.{◌≡◌, ◌≤◌}
use Rattle.hc_wire.specs.Logs.{Log}
use Rattle.hc_proxy.specs.{Keeping.{Frame}, Serving.{IsReady, Begins}}
use Rattle.hc_proxy.proofs.LoopGoes.{IsTurning, IsWriting}
use Rattle.hc_proxy.proofs.proxy.Proxy.serve.Given as goal

abbrev pub invariant-loop-turn : goal.invariant-loop-turn
invariant-loop-turn g l =
    ∥ IsReady (g.W.Wire.events l.wire) (g.W.Wire.log l.wire) (g.W.Wire.stages l.wire) l.wait l.self ∥₁
    × (((a b : g.row.B.Denot) → g.B.Backend.faults a ≡ g.B.Backend.faults b) → (f : Frame) (before : Log) →
    Begins (g.W.Wire.events l.fn.wire) f l.fn.self before (g.W.Wire.log l.fn.wire) (g.W.Wire.stages l.fn.wire)
    → IsTurning (g.W.Wire.events l.wire) l._turn f.limits f.setting before l.self (g.W.Wire.log l.wire) (g.W.Wire.stages l.wire) (g.K.Sink.taken l.fn.log)
    (g.K.Sink.taken l.log) l.wait)
    × (g.W.Wire.faults l.wire ≡ g.W.Wire.faults l.fn.wire)
    × (g.K.Sink.faults l.log ≡ g.K.Sink.faults l.fn.log)
    × (l._turn ≤ l.fn.turns)
    × ((f : Frame) (before : Log) → Begins (g.W.Wire.events l.fn.wire) f l.fn.self before (g.W.Wire.log l.fn.wire) (g.W.Wire.stages l.fn.wire)
    → IsWriting (g.W.Wire.events l.wire) f.limits f.setting.contents l.self (g.W.Wire.log l.wire) (g.W.Wire.stages l.wire) (g.K.Sink.taken l.fn.log)
    (g.K.Sink.taken l.log) l.wait)
