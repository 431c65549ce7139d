use Rattle.std.{proofs.{Common.{◌≡◌, ◌+◌, ◌-◌, ◌/◌, [], get_or, sym, ◌∙◌, arith}, lemmas.{Bool.{OnTrue_from, OnFalse_from}, List.{length-map}}}, specs.{Ordering.{nat_cmp}, Cmp.Lexicographic.{slice_cmp}}}
use Rattle.http_header.specs.Token.{lowercase}
use Rattle.hc_fields.specs.Marks.{field_at, fields_at}
use Rattle.hc_fields.proofs.Places.{no_mark, searched, narrowed_left, narrowed_right, narrowed_absent, narrowed_present, not_before, nth_is}
use Rattle.hc_fields.proofs.search.start_place.Goals as goal

pub loop-low-preserved-then-is_gt : goal.loop-low-preserved-then-is_gt
loop-low-preserved-then-is_gt c =
    let name = lowercase c.args.name.now in
    let fs = fields_at c.args.text.now c.args.marks.now in
    let middle = c.loop-low.low + (c.loop-low.high - c.loop-low.low) / 2 in
    let within = c.loop-low.invariant.place.within in
    let len = length-map c.args.marks.now (field_at c.args.text.now) in
    let order : c.compare_at-order.result ≡ slice_cmp nat_cmp name (get_or fs middle ([], [])).0 =
    rw (nth_is c.args.text.now c.args.marks.now middle no_mark (omega (arith, within, len))) c.compare_at-order.ensures in
    narrowed_right name fs c.loop-low.low middle c.loop-low.high c.loop-low.found c.compare_at-order.result c.requires.list.sorted c.loop-low.invariant
    (omega arith) order (sym c.is_gt.ensures ∙ c.if-is_gt.true)

pub loop-low-preserved : goal.loop-low-preserved
loop-low-preserved c =
    let name = lowercase c.args.name.now in
    let fs = fields_at c.args.text.now c.args.marks.now in
    let middle = c.loop-low.low + (c.loop-low.high - c.loop-low.low) / 2 in
    let within = c.loop-low.invariant.place.within in
    let len = length-map c.args.marks.now (field_at c.args.text.now) in
    let order : c.compare_at-order.result ≡ slice_cmp nat_cmp name (get_or fs middle ([], [])).0 =
    rw (nth_is c.args.text.now c.args.marks.now middle no_mark (omega (arith, within, len))) c.compare_at-order.ensures in
    rw c.is_eq-found.ensures
    (narrowed_left name fs c.loop-low.low middle c.loop-low.high c.loop-low.found c.compare_at-order.result c.requires.list.sorted c.loop-low.invariant
    (omega arith) (omega arith) order (sym c.is_gt.ensures ∙ c.if-is_gt.false))

pub returns-clause-place : goal.returns-clause-place
returns-clause-place c =
    searched (not_before (lowercase c.args.name.now)) (fields_at c.args.text.now c.args.marks.now) c.loop-low.low c.loop-low.high
    c.loop-low.invariant.place c.loop-low-test.false

pub returns-clause-absent : goal.returns-clause-absent
returns-clause-absent c =
    OnFalse_from c.loop-low.found _
    (narrowed_absent (lowercase c.args.name.now) (fields_at c.args.text.now c.args.marks.now) c.loop-low.low c.loop-low.high c.loop-low.found
    c.loop-low.invariant c.loop-low-test.false)

pub returns-clause-present : goal.returns-clause-present
returns-clause-present c =
    OnTrue_from c.loop-low.found _
    (narrowed_present (lowercase c.args.name.now) (fields_at c.args.text.now c.args.marks.now) c.loop-low.low c.loop-low.high c.loop-low.found
    c.requires.list.sorted c.loop-low.invariant c.loop-low-test.false)
