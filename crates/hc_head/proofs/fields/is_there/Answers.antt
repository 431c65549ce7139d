use Rattle.http_header.specs.Token.{lowercase}
use Rattle.hc_fields.specs.FieldList.{has_name}
use Rattle.hc_head.proofs.Heads.{any_next, any_here}
use Rattle.hc_head.proofs.fields.is_there.Goals as goal

pub loop-header-preserved : goal.loop-header-preserved
loop-header-preserved c =
    any_next (has_name (lowercase c.args.name.now)) c.args.headers.now c.loop-header.header-index _ c.has_name.result _ c.loop-header-test.true
    c.has_name.ensures c.if-has_name.false c.loop-header.invariant

pub returns-then-has_name : goal.returns-then-has_name
returns-then-has_name c =
    any_here (has_name (lowercase c.args.name.now)) c.args.headers.now c.loop-header.header-index _ c.has_name.result _ c.loop-header-test.true
    c.has_name.ensures c.if-has_name.true c.loop-header.invariant
