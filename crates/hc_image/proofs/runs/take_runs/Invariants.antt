use Rattle.std.proofs.Common.{◌≡◌, ◌++◌}
use Rattle.hc_image.specs.{Images.{runs_text}, Parts.{AreRuns}}
use Rattle.hc_image.proofs.runs.take_runs.Given as goal

abbrev pub invariant-loop : goal.invariant-loop
invariant-loop l = record {
  are : AreRuns l.counter l.runs;
  is : runs_text l.runs ++ l.rest ≡ l.initial.rest;
}
