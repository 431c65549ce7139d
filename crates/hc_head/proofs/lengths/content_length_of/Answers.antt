use Rattle.std.specs.Prelude.{codes}
use Rattle.hc_fields.specs.FirstValues.{elements_in}
use Rattle.hc_rules.proofs.LengthFolds.{reported_is}
use Rattle.hc_head.specs.Held.{fields_in}
use Rattle.hc_head.proofs.CodingFolds.{length_next}
use Rattle.hc_head.proofs.lengths.content_length_of.Goals as goal

pub loop-header-init : goal.loop-header-init
loop-header-init c = reported_is (elements_in (codes "content-length") (fields_in c.args.headers.now))

pub loop-header-preserved : goal.loop-header-preserved
loop-header-preserved c =
    length_next c.loop-header.length c.length_with-length.result _ c.args.headers.now c.loop-header.header-index _ c.loop-header-test.true
    c.length_with-length.ensures c.loop-header.invariant
