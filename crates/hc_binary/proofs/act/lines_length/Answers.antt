use Rattle.hc_binary.proofs.Lengths.{lines_length-text}
use Rattle.hc_binary.proofs.act.lines_length.Goals as goal

pub returns-clause-text : goal.returns-clause-text
returns-clause-text c = rw (c.size.ensures.value, c.len.ensures.value) (lines_length-text c.args.fields.now)
