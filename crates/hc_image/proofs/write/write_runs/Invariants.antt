use Rattle.std.proofs.Common.{◌≡◌, ◌++◌, take}
use Rattle.hc_image.specs.Images.{runs_text}
use Rattle.hc_image.proofs.write.write_runs.Given as goal

abbrev pub invariant-loop-run : goal.invariant-loop-run
invariant-loop-run l = l.to.items ≡ l.initial.to.items ++ runs_text (take l.run-index l.runs)
