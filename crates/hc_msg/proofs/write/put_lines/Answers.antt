use Rattle.std.proofs.Common.{refl}
use Rattle.hc_text.proofs.Growth.{texts_grow}
use Rattle.hc_msg.specs.Writing.{line_of, lines_of}
use Rattle.hc_msg.proofs.write.put_lines.Goals as goal

pub loop-i-preserved : goal.loop-i-preserved
loop-i-preserved c = texts_grow line_of lines_of refl (λ _ _. refl) c.args.fields.now c.loop-i.i _ c.args.to.now.items _ _ c.at.ensures c.loop-i.invariant
    c.in_ok-put_line.ensures.ok
