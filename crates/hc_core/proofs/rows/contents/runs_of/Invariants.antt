use Rattle.std.proofs.Common.{◌≡◌, ◌-◌, ◌≤◌, ◌^◌}
use Rattle.hc_stored.specs.{Entries.{shelf_of}, Shelf.{Stays, cells_at}}
use Rattle.hc_core.proofs.Remaining.{AreFound}
use Rattle.hc_core.proofs.rows.contents.runs_of.Given as goal

abbrev pub invariant-runs : goal.invariant-runs
invariant-runs g l =
    record {
      same : Stays (shelf_of l.initial.entries) (shelf_of l.entries);
      found : AreFound (cells_at (shelf_of l.initial.entries) l.r) l.p l.runs;
      small : l.p ≤ 2 ^ 62;
      faults : (shelf_of l.entries).faults ≡ (shelf_of l.initial.entries).faults;
    }

abbrev pub decreases-runs : goal.decreases-runs
decreases-runs g l = 2 ^ 62 - l.p
