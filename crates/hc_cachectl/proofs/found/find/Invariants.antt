use Rattle.std.{proofs.Common.{◌≡◌, drop}, specs.List.{flat_map}}
use Rattle.http_header.specs.Token.{lowercase}
use Rattle.hc_text.specs.Elements.{elements}
use Rattle.hc_fields.specs.{FieldList.{values_of}, FirstValues.{elements_in}}
use Rattle.hc_cachectl.specs.Found.{with_elements, nothing_found}
use Rattle.hc_cachectl.proofs.found.find.Given as goal

abbrev pub invariant-loop-i : goal.invariant-loop-i
invariant-loop-i l =
    with_elements l.found (flat_map elements (drop l.i (values_of (lowercase l.name) l.fields))) ≡ with_elements nothing_found
    (elements_in (lowercase l.name) l.fields)
