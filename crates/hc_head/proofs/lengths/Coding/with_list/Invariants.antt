use Rattle.std.proofs.Common.{◌≡◌, ◌-◌, length, drop}
use Rattle.hc_text.specs.Elements.{elements}
use Rattle.hc_head.specs.Codings.{with_codings}
use Rattle.hc_head.proofs.lengths.Coding.with_list.Given as goal

abbrev pub invariant-loop-item : goal.invariant-loop-item
invariant-loop-item l = with_codings l.coding (elements (drop l.from l.text)) ≡ with_codings l.fn.self (elements l.text)

abbrev pub decreases-loop-item : goal.decreases-loop-item
decreases-loop-item l = length l.text - l.from
