use Rattle.std.proofs.Common.{◌≡◌, drop}
use Rattle.hc_text.specs.Elements.{elements}
use Rattle.hc_text.proofs.list.first_start.Given as goal

abbrev pub invariant-loop-at : goal.invariant-loop-at
invariant-loop-at l = elements (drop l.from l.text) ≡ elements (drop l.at l.text)
