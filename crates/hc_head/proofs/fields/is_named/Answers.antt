use Rattle.http_header.specs.Token.{lowercase}
use Rattle.hc_head.specs.Rules.{is_option}
use Rattle.hc_head.proofs.Heads.{any_next, any_here}
use Rattle.hc_head.proofs.fields.is_named.Goals as goal

pub loop-header-preserved : goal.loop-header-preserved
loop-header-preserved c =
    any_next (is_option (lowercase c.args.name.now)) c.args.headers.now c.loop-header.header-index _ c.is_option.result _ c.loop-header-test.true
    c.is_option.ensures c.if-is_option.false c.loop-header.invariant

pub returns-then-is_option : goal.returns-then-is_option
returns-then-is_option c =
    any_here (is_option (lowercase c.args.name.now)) c.args.headers.now c.loop-header.header-index _ c.is_option.result _ c.loop-header-test.true
    c.is_option.ensures c.if-is_option.true c.loop-header.invariant
