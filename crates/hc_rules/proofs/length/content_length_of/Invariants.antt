use Rattle.std.{proofs.Common.{◌≡◌, drop}, specs.{Prelude.{codes}, List.{flat_map}}}
use Rattle.hc_text.specs.Elements.{elements}
use Rattle.hc_fields.specs.{FieldList.{values_of}, FirstValues.{elements_in}}
use Rattle.hc_rules.specs.{Lengths.{content_length_of}, LengthSoFar.{with_elements}}
use Rattle.hc_rules.proofs.length.content_length_of.Given as goal

abbrev pub invariant-loop-i : goal.invariant-loop-i
invariant-loop-i l =
    with_elements l.length (flat_map elements (drop l.i (values_of (codes "content-length") l.fields))) ≡ content_length_of
    (elements_in (codes "content-length") l.fields)
