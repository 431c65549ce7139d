-- What a slot in memory holds.
use Rattle.std.specs.Prelude.{Option, Some, None}
use Rattle.slab.specs.Slab.{Slab, get}
use Rattle.hc_sparse.specs.Sparse.{sparse_cells}
use Rattle.hc_store.specs.declared.entry.Entry.{Entry}
use Rattle.hc_record.specs.Plain.{plain}
use Rattle.hc_store.specs.Slots.{Held, Slots}

abbrev pub entry_contents : Entry → Held
entry_contents e = record { head = plain e.head; cells = sparse_cells e.bytes }

abbrev pub held_at : Option Entry → Option Held
held_at None = None
held_at (Some e) = Some (entry_contents e)

abbrev pub slots_of : Slab Entry → Slots
slots_of entries n = held_at (get entries n)
