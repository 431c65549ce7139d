use Rattle.std.{proofs.Common.{◌≡◌, drop}, specs.{Prelude.{codes}, List.{flat_map, list_any}}}
use Rattle.hc_text.specs.Elements.{elements}
use Rattle.hc_fields.specs.FieldList.{values_of}
use Rattle.hc_stored.specs.Heads.{is_none_element}
use Rattle.hc_stored.proofs.ranges.refuses_ranges.Given as goal

abbrev pub invariant-loop-i : goal.invariant-loop-i
invariant-loop-i l =
    list_any is_none_element (flat_map elements (drop l.i (values_of (codes "accept-ranges") l.fields)))
    ≡ list_any is_none_element (flat_map elements (values_of (codes "accept-ranges") l.fields))
