use Rattle.hc_image.proofs.Lists.{runs_next}
use Rattle.hc_image.proofs.write.write_runs.Goals as goal

pub loop-run-preserved : goal.loop-run-preserved
loop-run-preserved c =
    runs_next c.args.to.now.items c.loop-run.to.items c.write_run.new.to.items c.args.runs.now c.loop-run.run-index c.run-item.result c.loop-run-test.true
    c.run-item.is c.loop-run.invariant c.in_ok-write_run.ensures
