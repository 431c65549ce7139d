use Rattle.std.proofs.Common.{◌≡◌, map, take}
use Rattle.hc_stored.specs.{Entries.{shelf_of}, Shelf.{Stays}}
use Rattle.hc_contents.specs.PlainContents.{plain_item}
use Rattle.hc_state.specs.Remains.{AreContentsOf}
use Rattle.hc_core.proofs.rows.contents.items_of.Given as goal

abbrev pub invariant-loop-r : goal.invariant-loop-r
invariant-loop-r g l =
    record {
      same : Stays (shelf_of l.initial.entries) (shelf_of l.entries);
      reported : AreContentsOf (shelf_of l.initial.entries) (take l.r-index l.r-items) (map plain_item l.items);
      faults : (shelf_of l.entries).faults ≡ (shelf_of l.initial.entries).faults;
    }
