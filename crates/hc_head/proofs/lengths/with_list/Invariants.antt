use Rattle.std.proofs.Common.{◌≡◌, ◌-◌, length, drop}
use Rattle.hc_text.specs.Elements.{elements}
use Rattle.hc_rules.specs.LengthSoFar.{with_elements}
use Rattle.hc_head.proofs.lengths.with_list.Given as goal

abbrev pub invariant-loop-item : goal.invariant-loop-item
invariant-loop-item l = with_elements l.length (elements (drop l.from l.text)) ≡ with_elements l.fn.length (elements l.text)

abbrev pub decreases-loop-item : goal.decreases-loop-item
decreases-loop-item l = length l.text - l.from
