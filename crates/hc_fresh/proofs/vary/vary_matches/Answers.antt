use Rattle.std.{proofs.Common.{◌≡◌, ◌∙◌, ◌+◌, ◌&&◌, Bool, true, false, ap, drop, sym}, specs.{Prelude.{codes}, List.{flat_map, list_all}}}
use Rattle.hc_text.specs.Elements.{elements}
use Rattle.hc_fields.specs.FieldList.{values_of}
use Rattle.hc_record.specs.Plain.{plain}
use Rattle.hc_fresh.specs.Vary.{matches_on}
use Rattle.hc_fresh.proofs.Names.{one_more}
use Rattle.hc_fresh.proofs.vary.vary_matches.Goals as goal

pub returns-then-not-list_matches : goal.returns-then-not-list_matches
returns-then-not-list_matches c =
    let test = matches_on (plain c.args.head.now) c.args.request.now in
    let values = values_of (codes "vary") c.args.head.now.fields in
    let value = rw c.unwrap.ensures at c.value.ensures in
    let more = one_more test values c.loop-i.i c.unwrap.result.now (sym value) in
    let fails = sym c.list_matches.ensures ∙ c.if-not-list_matches.true in
    let rest = list_all test (flat_map elements (drop (c.loop-i.i + 1) values)) in
    sym (more ∙ ap (λ (b : Bool). b && rest) fails) ∙ c.loop-i.invariant

pub loop-i-preserved : goal.loop-i-preserved
loop-i-preserved c =
    let test = matches_on (plain c.args.head.now) c.args.request.now in
    let values = values_of (codes "vary") c.args.head.now.fields in
    let value = rw c.unwrap.ensures at c.value.ensures in
    let more = one_more test values c.loop-i.i c.unwrap.result.now (sym value) in
    let passes = sym c.list_matches.ensures ∙ c.if-not-list_matches.false in
    let rest = list_all test (flat_map elements (drop (c.loop-i.i + 1) values)) in
    sym (more ∙ ap (λ (b : Bool). b && rest) passes) ∙ c.loop-i.invariant
