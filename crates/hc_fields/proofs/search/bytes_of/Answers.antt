use Rattle.std.proofs.Common.{refl}
use Rattle.hc_fields.proofs.{Kept.{size_of-more}, Places.{no_mark}}
use Rattle.hc_fields.proofs.search.bytes_of.Goals as goal

pub loop-mark-preserved : goal.loop-mark-preserved
loop-mark-preserved c =
    rw (
      size_of-more c.args.text.now c.args.marks.now c.loop-mark.mark-index no_mark c.loop-mark-test.true,
      c.name.ensures,
      c.value.ensures,
      c.loop-mark.invariant,
    ) refl
