-- What entries keep.
use Rattle.hc_store.specs.declared.backend.Backend.{Ghosts}
use Rattle.hc_store.specs.Slots.{weight}
use Rattle.hc_stored.specs.declared.entries.Entries.{Entries}
use Rattle.hc_stored.specs.Rows.{rows_of, kept_by}
use Rattle.hc_stored.specs.Shelf.{Shelf}

abbrev pub store_of : {B : Type 0} {g : Ghosts B} → Entries B g → B
store_of e = e.store

abbrev pub shelf_of : {B : Type 0} {g : Ghosts B} → Entries B g → Shelf
shelf_of {B} {g} e = record {
  kept = λ r. kept_by (g.slots e.store) (rows_of e.rows r);
  order = e.order;
  used = weight (g.slots e.store);
  limits = g.limits e.store;
  faults = g.faults e.store;
}
