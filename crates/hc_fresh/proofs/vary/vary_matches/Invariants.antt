use Rattle.std.{proofs.Common.{◌≡◌, drop}, specs.{Prelude.{codes}, List.{flat_map, list_all}}}
use Rattle.hc_text.specs.Elements.{elements}
use Rattle.hc_fields.specs.FieldList.{values_of}
use Rattle.hc_record.specs.Plain.{plain}
use Rattle.hc_fresh.specs.Vary.{matches_on, matches_vary}
use Rattle.hc_fresh.proofs.vary.vary_matches.Given as goal

abbrev pub invariant-loop-i : goal.invariant-loop-i
invariant-loop-i l =
    list_all (matches_on (plain l.head) l.request) (flat_map elements (drop l.i (values_of (codes "vary") l.head.fields)))
    ≡ matches_vary (plain l.head) l.request
