use Rattle.std.proofs.Common.{take}
use Rattle.hc_stored.specs.Entries.{shelf_of}
use Rattle.hc_core.proofs.BegunItems.{ArePut}
use Rattle.hc_core.proofs.rows.begin.put_runs.Given as goal

abbrev pub invariant-loop-run : goal.invariant-loop-run
invariant-loop-run g l = ArePut (shelf_of l.initial.entries) (shelf_of l.entries) l.r (take l.run-index l.runs)
