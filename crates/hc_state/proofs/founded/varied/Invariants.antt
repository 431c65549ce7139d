use Rattle.std.proofs.Common.{◌≡◌, drop}
use Rattle.hc_validate.specs.Updates.{left_by}
use Rattle.hc_effects.proofs.Vocabulary.{varied_by}
use Rattle.hc_state.proofs.Varied.{unnamed}
use Rattle.hc_state.proofs.founded.varied.Given as goal

abbrev pub invariant-loop-i : goal.invariant-loop-i
invariant-loop-i l = left_by (unnamed l.reported (drop l.i l.asked)) l.fields ≡ varied_by l.asked l.reported
