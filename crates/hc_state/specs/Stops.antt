-- What becomes of what an exchange brought when that is closed.
use Rattle.std.specs.Prelude.{◌≡◌, ℕ, Bool, false, Option, Some, None, is_some, unwrap_or, nat_lt, not, ◌==◌, ◌&&◌, if◌then◌else◌}
use Rattle.hc_record.specs.declared.kind.Kind.{Kind}
use Rattle.hc_record.specs.declared.kind.Kind.TheVariants as kind
use Rattle.hc_sparse.specs.Cells.{Cells, EndsBy}
use Rattle.hc_stored.specs.declared.view.EntryView.{EntryView}
use Rattle.hc_stored.specs.Kept.{Kept}
use Rattle.hc_text.specs.Sorted.{itself, has}
use Rattle.hc_stored.specs.Shelf.{Shelf}
use Rattle.hc_stored.specs.Views.{view_of, bound_in}
use Rattle.hc_exch.specs.declared.role.Role.{Role}
use Rattle.hc_exch.specs.declared.role.Role.TheVariants as role
use Rattle.hc_exch.specs.declared.row.Open.{Open}
use Rattle.hc_exch.specs.Known.{Table}
use Rattle.hc_model.specs.Currents.{is_number}
use Rattle.hc_model.specs.Kinds.{is_complete, is_prefix}
use Rattle.hc_model.specs.Rows.{Representation}
use Rattle.hc_state.specs.declared.stop.Disposition.{Disposition}
use Rattle.hc_state.specs.declared.stop.Disposition.TheVariants as stop
use Rattle.hc_state.specs.declared.stop.Readers.{Readers}
use Rattle.hc_state.specs.declared.stop.Readers.TheVariants as readers
use Rattle.hc_txn.specs.declared.transaction.Transaction.{Transaction as Consumer}
use Rattle.hc_state.specs.Leaving.{writer_group_of}
use Rattle.hc_rules.specs.Statuses.{brings_whole}

abbrev pub body_of : Role → Option ℕ
body_of (role.Body r) = Some r
body_of _ = None

-- the representation that it brings
abbrev pub brought_by : Option Open → Option ℕ
brought_by None = None
brought_by (Some o) = body_of o.role

-- what is stored can be completed later
abbrev pub may_complete : EntryView → Bool
may_complete entry =
    entry.has_tag && is_some entry.total && nat_lt 0 entry.size && not entry.refuses_ranges

-- it goes with the whole answer that founded it
abbrev pub goes_with : ℕ → ℕ → EntryView → Bool
goes_with x r entry = x == r && brings_whole entry.status && not (may_complete entry)

abbrev pub stop_by : ℕ → ℕ → Option Kept → Disposition
stop_by x r None = stop.Nothing
stop_by x r (Some k) =
    if k.is_gone then stop.Nothing
    else if goes_with x r (view_of k) then stop.LetGo r else stop.Seal r

abbrev pub stop_at : ℕ → Shelf → Option ℕ → Disposition
stop_at x s None = stop.Nothing
stop_at x s (Some r) = stop_by x r (s.kept r)

abbrev pub stop_of : ℕ → Option Open → Shelf → Disposition
stop_of x running s = stop_at x s (brought_by running)

-- WHO READS FROM IT

abbrev pub opener_of : Option Open → ℕ
opener_of None = 0
opener_of (Some o) = o.c

-- who goes on with what was lost
abbrev pub alone_in : Option Kept → Option ℕ
alone_in None = None
alone_in (Some k) = k.alone

abbrev pub readers_by : ℕ → Table → Shelf → ℕ → Option ℕ → Readers
readers_by x table s c None = readers.One c
readers_by x table s c (Some r) =
    if is_number (writer_group_of table (s.kept r)) x then readers.All r
    else readers.One (unwrap_or (alone_in (s.kept r)) c)

abbrev pub readers_of : ℕ → Table → Shelf → Readers
readers_of x table s =
    readers_by x table s (opener_of (table x).running) (brought_by (table x).running)

-- it is live, and was shown a head
abbrev pub is_shown : Option Consumer → Bool
is_shown None = false
is_shown (Some k) = k.shown

-- who goes on where that is lost
abbrev pub goes_on : Readers → Option ℕ
goes_on (readers.One c) = Some c
goes_on (readers.All r) = None

abbrev pub reads_from : Shelf → Readers → ℕ → Bool
reads_from s (readers.One c) d = c == d
reads_from s (readers.All r) d = has itself d (bound_in (s.kept r))

-- WHAT IS STORED OF IT

-- the kind of what nothing more comes of
abbrev pub kind_left : Representation → Kind
kind_left v =
    if is_complete v then kind.Whole else if is_prefix v then kind.Truncated else kind.Ranges

-- what is told of it is what the tables say: its length, how many bytes are stored, and which
pub record IsViewOf (v : Representation) (cells : Cells) (entry : EntryView) : Type 0 where
  pub total : entry.total ≡ v.head.total
  pub size : entry.size ≡ v.size
  pub stored : (p : ℕ) → cells p ≡ v.stored p
  pub ends : EndsBy v.reach v.stored
