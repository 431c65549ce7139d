use Rattle.std.proofs.{Common.{◌+◌, ◌-◌, ◌/◌, refl, arith}, lemmas.List.{length-map}}
use Rattle.http_header.specs.Token.{lowercase}
use Rattle.hc_fields.specs.Marks.{field_at, fields_at}
use Rattle.hc_fields.proofs.Places.{no_mark, searched, searched_left, searched_right, ascending_end, is_behind, nth_is}
use Rattle.hc_fields.proofs.search.end_place.Goals as goal

pub loop-low-preserved-then-is_after : goal.loop-low-preserved-then-is_after
loop-low-preserved-then-is_after c =
    let name = lowercase c.args.name.now in
    let fs = fields_at c.args.text.now c.args.marks.now in
    let test = is_behind name in
    let within = c.loop-low.invariant.within in
    let len = length-map c.args.marks.now (field_at c.args.text.now) in
    searched_left test fs c.loop-low.low (c.loop-low.low + (c.loop-low.high - c.loop-low.low) / 2) c.loop-low.high
    (ascending_end name fs c.requires.list.sorted) c.loop-low.invariant (omega arith) (omega arith)
    (rw (
      nth_is c.args.text.now c.args.marks.now (c.loop-low.low + (c.loop-low.high - c.loop-low.low) / 2) no_mark (omega (arith, within, len)),
      ← c.is_after.ensures,
      c.if-is_after.true,
    ) refl)

pub loop-low-preserved : goal.loop-low-preserved
loop-low-preserved c =
    let name = lowercase c.args.name.now in
    let fs = fields_at c.args.text.now c.args.marks.now in
    let test = is_behind name in
    let within = c.loop-low.invariant.within in
    let len = length-map c.args.marks.now (field_at c.args.text.now) in
    searched_right test fs c.loop-low.low (c.loop-low.low + (c.loop-low.high - c.loop-low.low) / 2) c.loop-low.high
    (ascending_end name fs c.requires.list.sorted) c.loop-low.invariant (omega arith)
    (rw (
      nth_is c.args.text.now c.args.marks.now (c.loop-low.low + (c.loop-low.high - c.loop-low.low) / 2) no_mark (omega (arith, within, len)),
      ← c.is_after.ensures,
      c.if-is_after.false,
    ) refl)

pub returns-clause-place : goal.returns-clause-place
returns-clause-place c =
    searched (is_behind (lowercase c.args.name.now)) (fields_at c.args.text.now c.args.marks.now) c.loop-low.low c.loop-low.high c.loop-low.invariant
    c.loop-low-test.false
