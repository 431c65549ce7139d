use Rattle.std.proofs.Common.{arith}
use Rattle.hc_head.specs.Held.{fields_in}
use Rattle.hc_head.proofs.{Heads.{within_limits_at, kept_next, kept_small}, Options.{there_at}}
use Rattle.hc_head.proofs.fields.kept_of.Goals as goal

pub pass_on-requires-clause-short : goal.pass_on-requires-clause-short
pass_on-requires-clause-short c = within_limits_at c.args.headers.now c.loop-header.header-index _ c.loop-header-test.true c.requires.within_limits

pub pass_on-requires-clause-present : goal.pass_on-requires-clause-present
pass_on-requires-clause-present c = there_at c.args.headers.now c.loop-header.header-index _ c.loop-header-test.true

pub loop-header-preserved : goal.loop-header-preserved
loop-header-preserved c = record {
  same = kept_next c.args.leaving (fields_in c.args.headers.now) c.loop-header.fields _ _ c.args.headers.now c.loop-header.header-index _
      c.loop-header-test.true c.in_ok-pass_on.ensures.value c.loop-header.invariant.same;
  few = omega (arith, c.in_ok-pass_on.ensures.count, c.loop-header.invariant.few);
  small = kept_small c.loop-header.fields c.pass_on.new.fields c.args.headers.now c.loop-header.header-index _ c.loop-header-test.true
      c.in_ok-pass_on.ensures.size c.loop-header.invariant.small;
}
