use Rattle.std.{proofs.Common.{◌∙◌, ◌+◌, Bool, ap, drop, sym}, specs.{Prelude.{codes, ◌||◌}, List.{flat_map, list_any}}}
use Rattle.hc_text.specs.Elements.{elements}
use Rattle.hc_fields.specs.FieldList.{values_of}
use Rattle.hc_stored.specs.Heads.{is_none_element}
use Rattle.hc_stored.proofs.ElementLemmas.{one_more}
use Rattle.hc_stored.proofs.ranges.refuses_ranges.Goals as goal

pub returns-then-lists_none : goal.returns-then-lists_none
returns-then-lists_none c =
    let values = values_of (codes "accept-ranges") c.args.fields.now in
    let value = rw c.unwrap.ensures at c.value.ensures in
    let more = one_more is_none_element values c.loop-i.i c.unwrap.result.now (sym value) in
    let passes = sym c.lists_none.ensures ∙ c.if-lists_none.true in
    let rest = list_any is_none_element (flat_map elements (drop (c.loop-i.i + 1) values)) in
    sym (more ∙ ap (λ (b : Bool). b || rest) passes) ∙ c.loop-i.invariant

pub loop-i-preserved : goal.loop-i-preserved
loop-i-preserved c =
    let values = values_of (codes "accept-ranges") c.args.fields.now in
    let value = rw c.unwrap.ensures at c.value.ensures in
    let more = one_more is_none_element values c.loop-i.i c.unwrap.result.now (sym value) in
    let fails = sym c.lists_none.ensures ∙ c.if-lists_none.false in
    let rest = list_any is_none_element (flat_map elements (drop (c.loop-i.i + 1) values)) in
    sym (more ∙ ap (λ (b : Bool). b || rest) fails) ∙ c.loop-i.invariant
