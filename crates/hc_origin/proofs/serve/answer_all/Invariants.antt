use Rattle.std.proofs.Common.{◌≡◌}
use Rattle.hc_origin.specs.Going.{asking_in}
use Rattle.hc_origin.proofs.Ends.{IsTurning}
use Rattle.hc_origin.proofs.serve.answer_all.Given as goal

abbrev pub invariant-loop-turn : goal.invariant-loop-turn
invariant-loop-turn g l =
    IsTurning (g.W.Wire.log l.fn.wire) (g.W.Wire.log l.wire) (g.W.Wire.stages l.wire) (asking_in l.origin) l.origin.answering.items l._turn
    × (g.W.Wire.faults l.wire ≡ g.W.Wire.faults l.fn.wire)
