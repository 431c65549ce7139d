use Rattle.std.{proofs.Common.{◌≡◌, ◌-◌, length, drop}, specs.List.{list_any}}
use Rattle.hc_text.specs.Elements.{elements}
use Rattle.hc_state.specs.Founding.{is_named_by}
use Rattle.hc_state.proofs.founded.lists.Given as goal

abbrev pub invariant-loop-item : goal.invariant-loop-item
invariant-loop-item l = list_any (is_named_by l.name) (elements (drop l.from l.list)) ≡ list_any (is_named_by l.name) (elements l.list)

abbrev pub decreases-loop-item : goal.decreases-loop-item
decreases-loop-item l = length l.list - l.from
