use Rattle.std.{proofs.Common.{◌≡◌, ◌-◌, length, drop}, specs.List.{list_any}}
use Rattle.hc_text.specs.Elements.{elements}
use Rattle.hc_stored.specs.Heads.{is_none_element}
use Rattle.hc_stored.proofs.ranges.lists_none.Given as goal

abbrev pub invariant-loop-item : goal.invariant-loop-item
invariant-loop-item l = list_any is_none_element (elements (drop l.from l.list)) ≡ list_any is_none_element (elements l.list)

abbrev pub decreases-loop-item : goal.decreases-loop-item
decreases-loop-item l = length l.list - l.from
