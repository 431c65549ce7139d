use Rattle.std.{proofs.Common.{◌≡◌, ◌-◌, length, drop}, specs.List.{list_all}}
use Rattle.hc_text.specs.Elements.{elements}
use Rattle.hc_record.specs.Plain.{plain}
use Rattle.hc_fresh.specs.Vary.{matches_on}
use Rattle.hc_fresh.proofs.vary.list_matches.Given as goal

abbrev pub invariant-loop-item : goal.invariant-loop-item
invariant-loop-item l =
    list_all (matches_on (plain l.head) l.request) (elements (drop l.from l.list))
    ≡ list_all (matches_on (plain l.head) l.request) (elements l.list)

abbrev pub decreases-loop-item : goal.decreases-loop-item
decreases-loop-item l = length l.list - l.from
