-- A cache that begins with contents.
use Rattle.std.specs.Prelude.{◌≡◌, ◌≢◌, ◌<◌, ◌≤◌, ◌+◌, ◌^◌, ℕ, List, Bool, true, false, Option, Some, None, find, ◌==◌}
use Rattle.hc_store.specs.declared.backend.Backend.{Ghosts}
use Rattle.hc_rules.specs.declared.room.Limits.{Limits}
use Rattle.hc_stored.specs.Begun as entries
use Rattle.hc_stored.specs.Entries.{shelf_of}
use Rattle.hc_stored.specs.Kept.{Kept}
use Rattle.hc_stored.specs.Shelf.{Becomes, first_in}
use Rattle.hc_entry.specs.Kept.{with_current}
use Rattle.hc_entry.specs.Keys as keys
use Rattle.hc_model.specs.Beginnings.{ascend_from, is_kind_right}
use Rattle.hc_model.specs.Entries.{Content, Contents}
use Rattle.hc_model.specs.Tables.{first_tables, bytes_in}
use Rattle.hc_contents.specs.Fit.{unfit_of}
use Rattle.hc_contents.specs.declared.unfit.Unfit.TheVariants as unfit
use Rattle.hc_state.specs.declared.rows.Rows.{Rows}
use Rattle.hc_state.specs.Stands.{RowsStand}
use Rattle.hc_core.specs.declared.begin.ContentsError.{ContentsError}
use Rattle.hc_core.specs.declared.begin.ContentsError.TheVariants as error
use Rattle.hc_core.specs.declared.begin.ContentsRefused.{ContentsRefused}

-- ITEM BY ITEM

-- the same with these items
abbrev pub with_items : List Content → Contents → Contents
with_items items contents = record contents { items = items }

-- what is kept of an item
abbrev pub kept_item : Content → Kept
kept_item item = entries.with_runs item.runs (entries.kept_at_beginning item.key item.head)

-- an item more is kept and current, and all else stays
pub record KeepsItem {B : Type 0} {g : Ghosts B} (r u : Rows B g) (item : Content) : Type 0 where
  pub last_start : u.last_start ≡ r.last_start
  pub consumers : u.consumers ≡ r.consumers
  pub exchanges : u.exchanges ≡ r.exchanges
  pub keys : keys.Becomes (with_current (Some item.r)) item.key r.keys u.keys
  pub entries : Becomes (λ _. Some (kept_item item)) (first_in item.r) item.r (shelf_of r.entries) (shelf_of u.entries)

-- WHY THEY ARE REFUSED

-- the items and numbers decide, or all that they weigh; else the store, which counted it, or memory
abbrev pub IsCause : Limits → Contents → ℕ → ℕ → ContentsError → Type 0
IsCause limits contents before now (error.BadContent i) = unfit_of limits contents ≡ Some (unfit.BadContent i)
IsCause limits contents before now error.Full = unfit_of limits contents ≡ Some unfit.Full
IsCause limits contents before now error.Fault = (unfit_of limits contents ≡ None) × (before < now)
IsCause limits contents before now error.NoMemory = Unit {0}

-- they were refused before anything was put into the store
abbrev pub is_unfit : ContentsError → Bool
is_unfit (error.BadContent i) = true
is_unfit error.Full = true
is_unfit error.Fault = false
is_unfit error.NoMemory = false

-- The store comes back, which may hold some of the contents where they fit; where it didn't fail, its count stayed.
pub record IsRefusal {B : Type 0} (faults : B → ℕ) (bounds : B → Limits) (limits : Limits) (contents : Contents) (store : B) (refused : ContentsRefused B) : Type 0 where
  pub cause : IsCause limits contents (faults store) (faults refused.backend) refused.why
  pub calm : refused.why ≢ error.Fault → faults refused.backend ≡ faults store
  pub bounded : bounds refused.backend ≡ bounds store
  pub untouched : is_unfit refused.why ≡ true → refused.backend ≡ store
