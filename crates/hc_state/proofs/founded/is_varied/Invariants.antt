use Rattle.std.{proofs.Common.{◌≡◌, drop}, specs.{Prelude.{codes}, List.{flat_map, list_any}}}
use Rattle.hc_text.specs.Elements.{elements}
use Rattle.hc_fields.specs.FieldList.{values_of}
use Rattle.hc_state.specs.Founding.{is_named_by}
use Rattle.hc_state.proofs.founded.is_varied.Given as goal

abbrev pub invariant-loop-i : goal.invariant-loop-i
invariant-loop-i l =
    list_any (is_named_by l.name) (flat_map elements (drop l.i (values_of (codes "vary") l.reported)))
    ≡ list_any (is_named_by l.name) (flat_map elements (values_of (codes "vary") l.reported))
