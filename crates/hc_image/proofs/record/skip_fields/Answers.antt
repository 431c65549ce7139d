use Rattle.std.proofs.Common.{arith}
use Rattle.hc_image.proofs.Skipped.{skip_next, no_field}
use Rattle.hc_image.proofs.record.skip_fields.Goals as goal

pub returns-in_err-take_to : goal.returns-in_err-take_to
returns-in_err-take_to c = rw c.from_residual.ensures (λ fields after list same.
    no_field fields c.loop.counter after c.loop.rest (omega (arith, c.loop-test.true, list.count_is)) c.in_err-take_to.ensures
    (c.loop.invariant fields after list same))

pub loop-preserved : goal.loop-preserved
loop-preserved c = λ fields after list same.
    skip_next fields c.loop.counter after c.loop.rest c.in_ok-take_to.field-0.now c.take_to.new.self list.list.fields
    (omega (arith, c.loop-test.true, list.count_is)) (c.loop.invariant fields after list same) c.in_ok-take_to.ensures.0 c.in_ok-take_to.ensures.1
