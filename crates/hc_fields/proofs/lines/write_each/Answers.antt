use Rattle.std.proofs.{Common.{take, get_or}, lemmas.List.{append_assoc}}
use Rattle.hc_fields.specs.{Lines.{fields_text, field_text}, Marks.{field_at, fields_at}}
use Rattle.hc_fields.proofs.{LineLemmas.{fields_text-more}, Places.{no_mark}}
use Rattle.hc_fields.proofs.lines.write_each.Goals as goal

pub loop-mark-preserved : goal.loop-mark-preserved
loop-mark-preserved c =
    let text = c.args.text.now in
    let more = fields_text-more text c.args.marks.now c.loop-mark.mark-index no_mark c.loop-mark-test.true in
    rw (c.in_ok-extend_from_slice.ensures.items, c.line.ensures, c.loop-mark.invariant, more)
    (append_assoc c.args.to.now.items (fields_text (fields_at text (take c.loop-mark.mark-index c.args.marks.now)))
    (field_text (field_at text (get_or c.args.marks.now c.loop-mark.mark-index no_mark))))
