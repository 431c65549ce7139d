use Rattle.std.proofs.Common.{length, take, ap, arith, length-append}
use Rattle.hc_fields.specs.Marks.{separated_text}
use Rattle.hc_fields.proofs.{Joins.{separated-within, separated-le}, Places.{no_mark}}
use Rattle.hc_fields.proofs.joining.join.Goals as goal

pub overflow_add-first : goal.overflow_add-first
overflow_add-first c =
    rw c.separated_len.ensures (omega (arith, separated-le c.args.text.now c.args.others.now, c.requires.short, c.requires.few, c.requires.small))

pub unwrap-requires-in-loop-mark : goal.unwrap-requires-in-loop-mark
unwrap-requires-in-loop-mark c =
    let within = separated-within c.args.text.now c.args.others.now c.loop-mark.mark-index no_mark c.loop-mark-test.true in
    let so_far = length-append c.args.first.now (separated_text c.args.text.now (take c.loop-mark.mark-index c.args.others.now)) in
    let bytes = ap length c.loop-mark.invariant.bytes in
    let room = c.loop-mark.invariant.room in
    c.extend_from_slice-in-loop-mark.ensures.succeeds
    (omega (arith, within, so_far, bytes, room, c.loop-mark.bytes.ok.0))

pub unwrap-requires-in-loop-mark-2 : goal.unwrap-requires-in-loop-mark-2
unwrap-requires-in-loop-mark-2 c =
    let within = separated-within c.args.text.now c.args.others.now c.loop-mark.mark-index no_mark c.loop-mark-test.true in
    let so_far = length-append c.args.first.now (separated_text c.args.text.now (take c.loop-mark.mark-index c.args.others.now)) in
    let bytes = ap length c.loop-mark.invariant.bytes in
    let room = c.loop-mark.invariant.room in
    let len = rw c.unwrap-in-loop-mark.ensures at c.extend_from_slice-in-loop-mark.ensures.len in
    let capacity = c.extend_from_slice-in-loop-mark.ensures.capacity in
    c.extend_from_slice-in-loop-mark-2.ensures.succeeds
    (rw c.value.ensures (omega (arith, within, so_far, bytes, room, len, capacity, c.loop-mark.bytes.ok.0)))
