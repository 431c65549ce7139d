-- What becomes of what is kept when a consumer leaves.
use Rattle.std.specs.Prelude.{◌≡◌, ℕ, List, true, Option, Some, None, ◌==◌, if◌then◌else◌}
use Rattle.std.specs.List.{list_all}
use Rattle.std.specs.Option.{option_and_then, option_or}
use Rattle.hc_store.specs.declared.backend.Backend.{Ghosts}
use Rattle.hc_stored.specs.Entries.{shelf_of}
use Rattle.hc_stored.specs.Kept as entry
use Rattle.hc_stored.specs.Kept.{Kept}
use Rattle.hc_stored.specs.Shelf as shelf
use Rattle.hc_stored.specs.Shelf.{Shelf, same_order}
use Rattle.hc_stored.specs.Views.{has_user, bound_in, view_of}
use Rattle.hc_stored.specs.declared.view.EntryView.{EntryView}
use Rattle.hc_entry.specs.declared.keys.KeyTable.{KeyTable}
use Rattle.hc_entry.specs.Keys.{line_of}
use Rattle.hc_entry.specs.Lines.{is_in}
use Rattle.hc_exch.specs.declared.exchanges.Exchanges.{Exchanges}
use Rattle.hc_exch.specs.Exchanges.{table_of, next_of}
use Rattle.hc_exch.specs.Known.{Table, forgotten, is_open}
use Rattle.hc_event.specs.declared.place.Place.{Place}
use Rattle.hc_event.specs.declared.place.Place.TheVariants as place
use Rattle.hc_model.specs.Currents.{is_number}
use Rattle.hc_txn.specs.declared.transaction.Transaction.{Transaction as Consumer}
use Rattle.hc_state.specs.declared.rows.Rows.{Rows}
use Rattle.hc_state.specs.Handlers.{LeftIf}

-- WHAT IT LEAVES

abbrev pub if_running : Table → Option ℕ → Option ℕ
if_running table None = None
if_running table (Some x) = if is_open x table then Some x else None

-- the exchange of a writer group, as long as that is on, by what is told of the representation
abbrev pub group_by : Table → EntryView → Option ℕ
group_by table reported = if reported.is_lost then None else if_running table reported.writer

-- and that of what is kept
abbrev pub writer_group_of : Table → Option Kept → Option ℕ
writer_group_of table None = None
writer_group_of table (Some k) = group_by table (view_of k)

-- that of which whoever stands there is the last reader
abbrev pub last_read : Table → Shelf → ℕ → Place → Option ℕ
last_read table s c (place.Bound r lo hi by) =
    if list_all (λ d. d == c) (bound_in (s.kept r)) then writer_group_of table (s.kept r) else None
last_read table s c _ = None

-- what nobody reads any more once it leaves
abbrev pub left_of : {B : Type 0} {g : Ghosts B} → Rows B g → ℕ → Consumer → Option ℕ
left_of r c k =
    option_or (if_running (table_of r.exchanges) k.own)
    (last_read (table_of r.exchanges) (shelf_of r.entries) c k.place)

-- WHAT BECOMES OF THE ROWS

-- it waits for the key no more, if it did
abbrev pub LeavesKey : ℕ → List ℕ → KeyTable → KeyTable → Type 0
LeavesKey c key before after = LeftIf (is_in c (line_of before key)) c key before after

-- what is held of its own exchange, if it has one, isn't wanted any more
pub record Forgets (own : Option ℕ) (before after : Exchanges) : Type 0 where
  pub table : (y : ℕ) → table_of after y
      ≡ (if is_number own y then forgotten (table_of before y) else table_of before y)
  pub next : next_of after ≡ next_of before

-- where it stands, it is bound
abbrev pub IsUserAt : Place → ℕ → Shelf → Type 0
IsUserAt (place.Bound r lo hi by) c s = has_user c (s.kept r) ≡ true
IsUserAt _ c s = Unit {0}

-- it isn't bound any more, if it was
abbrev pub UnbindsAt : Place → ℕ → Shelf → Shelf → Type 0
UnbindsAt (place.Bound r lo hi by) c before after =
    shelf.Becomes (option_and_then (entry.left_by c)) same_order r before after
UnbindsAt _ c before after = after ≡ before

-- A consumer stands nowhere any more.
pub record LeavesPlace {B : Type 0} {g : Ghosts B} (r u : Rows B g) (c : ℕ) (k : Consumer) : Type 0 where
  pub last_start : u.last_start ≡ r.last_start
  pub consumers : u.consumers ≡ r.consumers
  pub line : LeavesKey c k.request.key r.keys u.keys
  pub forgets : Forgets k.own r.exchanges u.exchanges
  pub unbinds : UnbindsAt k.place c (shelf_of r.entries) (shelf_of u.entries)
