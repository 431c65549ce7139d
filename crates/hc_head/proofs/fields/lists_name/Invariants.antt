use Rattle.std.{proofs.Common.{◌≡◌, ◌-◌, length, drop}, specs.{Prelude.{bytes_eq}, List.{list_any}}}
use Rattle.http_header.specs.Token.{lowercase}
use Rattle.hc_text.specs.Elements.{elements}
use Rattle.hc_head.specs.Rules.{lists_name}
use Rattle.hc_head.proofs.fields.lists_name.Given as goal

abbrev pub invariant-loop-item : goal.invariant-loop-item
invariant-loop-item l = list_any (λ element. bytes_eq (lowercase element) (lowercase l.name)) (elements (drop l.from l.value)) ≡ lists_name
    (lowercase l.name) l.value

abbrev pub decreases-loop-item : goal.decreases-loop-item
decreases-loop-item l = length l.value - l.from
