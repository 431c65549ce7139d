-- The writer group of each representation that is kept.
use Rattle.std.specs.Prelude.{ℕ, Option, nat_eq}
use Rattle.std.specs.Option.{option_and_then}
use Rattle.std.specs.HashMap.{get}
use Rattle.hc_store.specs.declared.backend.Backend.{Ghosts}
use Rattle.hc_writers.specs.Group.{Group}
use Rattle.hc_entry.specs.Used.{group_in}
use Rattle.hc_stored.specs.declared.entry.Entry.{Entry}
use Rattle.hc_stored.specs.declared.entries.Entries.{Entries}
use Rattle.hc_stored.specs.Rows.{EntryMap}

abbrev pub group_at : EntryMap → ℕ → Option Group
group_at entries r = option_and_then (λ (e : Entry). group_in e.users.way) (get nat_eq entries r)

abbrev pub group_of : {B : Type 0} {g : Ghosts B} → Entries B g → ℕ → Option Group
group_of e r = group_at e.rows r
