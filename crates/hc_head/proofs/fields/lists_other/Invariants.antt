use Rattle.std.{proofs.Common.{◌≡◌, ◌-◌, length, drop}, specs.List.{list_any}}
use Rattle.hc_text.specs.Elements.{elements}
use Rattle.hc_head.specs.{Options.{names_other, lists_other}, Held.{fields_in}}
use Rattle.hc_head.proofs.fields.lists_other.Given as goal

abbrev pub invariant-loop-item : goal.invariant-loop-item
invariant-loop-item l = list_any (names_other (fields_in l.headers)) (elements (drop l.from l.value)) ≡ lists_other (fields_in l.headers) l.value

abbrev pub decreases-loop-item : goal.decreases-loop-item
decreases-loop-item l = length l.value - l.from
