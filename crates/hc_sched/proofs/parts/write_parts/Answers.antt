use Rattle.std.proofs.{Common.{refl}, lemmas.Option.{slice_get-get_or}}
use Rattle.hc_sched.specs.Parts.{part_text, parts_text}
use Rattle.hc_text.proofs.Growth.{texts_grow}
use Rattle.hc_sched.proofs.parts.write_parts.Goals as goal

pub loop-part-preserved : goal.loop-part-preserved
loop-part-preserved c =
    let parts = c.args.parts.now in
    let i = c.loop-part.part-index in
    texts_grow part_text parts_text refl (λ _ _. refl) parts i _ c.args.to.now.items _ _ (slice_get-get_or parts i _ c.loop-part-test.true)
    c.loop-part.invariant c.in_ok-write_part.ensures.ok
