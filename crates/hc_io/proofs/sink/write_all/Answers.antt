use Rattle.std.proofs.{Common.{arith, take, drop}, lemmas.List.{take-append-drop}}
use Rattle.hc_io.proofs.Takings.{takes_next, within_next}
use Rattle.hc_io.proofs.sink.write_all.Goals as goal

pub returns-in_err-n-clause-front : goal.returns-in_err-n-clause-front
returns-in_err-n-clause-front g c = record {
  front = take c.loop-at.at c.args.bytes.now;
  rest = drop c.loop-at.at c.args.bytes.now;
  whole = take-append-drop c.loop-at.at c.args.bytes.now;
  takes = rw c.in_err-n.ensures.err c.loop-at.invariant.takes;
}

pub loop-at-preserved : goal.loop-at-preserved
loop-at-preserved g c = record {
  within = within_next c.args.bytes.now c.loop-at.at c.in_ok-n.n c.loop-at-test.true c.in_ok-n.ensures.at_most;
  takes = takes_next _ _ _ c.args.bytes.now c.loop-at.at c.in_ok-n.n c.loop-at.invariant.takes c.in_ok-n.ensures.bytes;
  calm = omega (arith, c.loop-at.invariant.calm, c.in_ok-n.ensures.calm);
}
