use Rattle.std.proofs.Common.{arith}
use Rattle.hc_binary.proofs.Rooms.{puts_none, lines_more, lines_all}
use Rattle.hc_binary.proofs.copies.put_lines.Goals as goal

pub loop-i-init : goal.loop-i-init
loop-i-init c = (puts_none c.args.into.now c.args.at, c.requires)

pub loop-i-preserved : goal.loop-i-preserved
loop-i-preserved c = (
  lines_more c.args.into.now c.loop-i.into c.put_line-at.new.into c.args.at c.loop-i.at c.put_line-at.result c.args.fields.now c.loop-i.i
      (c.at.result.0.now, c.at.result.1.now) c.at.ensures
      c.loop-i.invariant.0 c.put_line-at.ensures.puts,
  c.put_line-at.ensures.within,
)

pub returns-clause-puts : goal.returns-clause-puts
returns-clause-puts c =
    let past = c.loop-i-test.false in
    lines_all c.args.into.now c.loop-i.into c.args.at c.loop-i.at c.args.fields.now c.loop-i.i (omega (arith, past, c.len-i-end.ensures.value))
    c.loop-i.invariant.0
