use Rattle.std.{proofs.Common.{◌∙◌, ◌+◌, Bool, ap, drop, sym}, specs.{Prelude.{codes, ◌||◌}, List.{flat_map, list_any}}}
use Rattle.hc_text.specs.Elements.{elements}
use Rattle.hc_fields.specs.FieldList.{values_of}
use Rattle.hc_stored.proofs.ElementLemmas.{one_more}
use Rattle.hc_state.specs.Founding.{is_named_by}
use Rattle.hc_state.proofs.founded.is_varied.Goals as goal

pub returns-then-lists : goal.returns-then-lists
returns-then-lists c =
    let test = is_named_by c.args.name.now in
    let values = values_of (codes "vary") c.args.reported.now in
    let value = rw c.unwrap.ensures at c.value.ensures in
    let more = one_more test values c.loop-i.i c.unwrap.result.now (sym value) in
    let passes = sym c.lists.ensures ∙ c.if-lists.true in
    let rest = list_any test (flat_map elements (drop (c.loop-i.i + 1) values)) in
    sym (more ∙ ap (λ (b : Bool). b || rest) passes) ∙ c.loop-i.invariant

pub loop-i-preserved : goal.loop-i-preserved
loop-i-preserved c =
    let test = is_named_by c.args.name.now in
    let values = values_of (codes "vary") c.args.reported.now in
    let value = rw c.unwrap.ensures at c.value.ensures in
    let more = one_more test values c.loop-i.i c.unwrap.result.now (sym value) in
    let fails = sym c.lists.ensures ∙ c.if-lists.false in
    let rest = list_any test (flat_map elements (drop (c.loop-i.i + 1) values)) in
    sym (more ∙ ap (λ (b : Bool). b || rest) fails) ∙ c.loop-i.invariant
