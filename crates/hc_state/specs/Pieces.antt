-- What of an exchange's bytes is stored.
use Rattle.std.specs.Prelude.{◌≡◌, ℕ, ◌+◌, List, length, Bool, true, false, Option, Some, None, option_map, if◌then◌else◌}
use Rattle.hc_record.specs.declared.kind.Kind.{Kind}
use Rattle.hc_sparse.specs.Cells.{cells_with}
use Rattle.hc_store.specs.declared.backend.Backend.{Ghosts}
use Rattle.hc_stored.specs.Entries.{shelf_of}
use Rattle.hc_stored.specs.declared.view.EntryView.{EntryView}
use Rattle.hc_stored.specs.Kept as entry
use Rattle.hc_stored.specs.Kept.{Kept}
use Rattle.hc_stored.specs.Shelf.{Shelf, Becomes, same_order}
use Rattle.hc_stored.specs.Views.{view_of}
use Rattle.hc_exch.specs.declared.row.Open.{Open}
use Rattle.hc_exch.specs.Exchanges.{table_of}
use Rattle.hc_exch.specs.Known.{is_last_of}
use Rattle.hc_model.specs.Rows.{Representation}
use Rattle.hc_state.specs.declared.rows.Rows.{Rows}
use Rattle.hc_state.specs.Stops.{brought_by, kind_left, IsViewOf}

-- as long as nothing of it was lost
abbrev pub unless_lost : ℕ → Option Kept → Option ℕ
unless_lost r None = None
unless_lost r (Some k) = if k.is_lost then None else Some r

abbrev pub stored_at : Shelf → Option ℕ → Option ℕ
stored_at s None = None
stored_at s (Some r) = unless_lost r (s.kept r)

-- the representation that grows by what an exchange brings
abbrev pub stored_by : {B : Type 0} {g : Ghosts B} → Rows B g → ℕ → Option ℕ
stored_by r x = stored_at (shelf_of r.entries) (brought_by (table_of r.exchanges x).running)

-- WHAT IS STORED MORE

-- so many bytes more are stored of it
abbrev pub larger_view : ℕ → EntryView → EntryView
larger_view n view = record view { size = view.size + n }

-- what the last byte makes of what is stored, or nothing where more is to come
pub data IsLastKind (over : Bool) (v : Representation) (last : Option Kind) : Type 0 where
  more : over ≡ false → last ≡ None → IsLastKind over v last
  ends : over ≡ true → last ≡ Some (kind_left v) → IsLastKind over v last

-- bytes of an exchange are put where its front is, with the kind where they are its last
pub record PutsPiece {B : Type 0} {g : Ghosts B} (r u : Rows B g) (x q : ℕ) (o : Open)
    (bytes : List ℕ) : Type 0 where
  pub last : Option Kind
  pub fills : Becomes (option_map (entry.kept_with_bytes (o.base + o.delivered) x bytes last)) same_order q
      (shelf_of r.entries) (shelf_of u.entries)
  pub kind : (k : Kept) (v : Representation) → (shelf_of r.entries).kept q ≡ Some k →
      IsViewOf v (cells_with (o.base + o.delivered) x bytes k.cells) (larger_view (length bytes) (view_of k)) →
      IsLastKind (is_last_of (Some o) (length bytes)) v last
