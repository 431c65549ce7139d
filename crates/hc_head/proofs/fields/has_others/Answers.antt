use Rattle.hc_head.specs.{Options.{is_other}, Held.{fields_in}}
use Rattle.hc_head.proofs.Heads.{any_next, any_here}
use Rattle.hc_head.proofs.fields.has_others.Goals as goal

pub loop-header-preserved : goal.loop-header-preserved
loop-header-preserved c =
    any_next (is_other (fields_in c.args.headers.now)) c.args.headers.now c.loop-header.header-index _ c.is_other.result _ c.loop-header-test.true
    c.is_other.ensures c.if-is_other.false c.loop-header.invariant

pub returns-then-is_other : goal.returns-then-is_other
returns-then-is_other c =
    any_here (is_other (fields_in c.args.headers.now)) c.args.headers.now c.loop-header.header-index _ c.is_other.result _ c.loop-header-test.true
    c.is_other.ensures c.if-is_other.true c.loop-header.invariant
