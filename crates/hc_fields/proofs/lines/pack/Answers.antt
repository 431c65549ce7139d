use Rattle.std.proofs.Common.{◌∙◌, refl}
use Rattle.hc_fields.proofs.{MarkLemmas.{packed_more}, Places.{no_mark}}
use Rattle.hc_fields.proofs.lines.pack.Goals as goal

pub loop-mark-preserved : goal.loop-mark-preserved
loop-mark-preserved c =
    packed_more c.args.text.now c.args.marks.now c.loop-mark.mark-index no_mark c.loop-mark.lines.items c.loop-mark.places.items
    c.extend_from_slice.new.self.items c.push.new.self.items c.name.result.now c.value.result.now c.loop-mark-test.true c.loop-mark.invariant
    c.name.ensures c.value.ensures
    (rw c.line.ensures at c.in_ok-extend_from_slice.ensures.items)
    (c.in_ok-push.ensures.items ∙ rw (c.new.ensures, c.len-start.ensures, c.loop-mark.lines.ok.0) refl)
