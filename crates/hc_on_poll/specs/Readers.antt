-- Who reads what is stored, and what its reading looks at.
use Rattle.std.specs.Prelude.{◌≡◌, ℕ, ◌+◌, ◌&&◌, Bool, None, false, nat_lt}
use Rattle.std.specs.Option.{option_or}
use Rattle.hc_store.specs.declared.backend.Backend.{Ghosts}
use Rattle.hc_rules.specs.Readings.{is_at_end}
use Rattle.hc_rules.specs.declared.reading.ReadStep.{ReadStep}
use Rattle.hc_stored.specs.Entries.{shelf_of}
use Rattle.hc_stored.specs.declared.view.EntryView.{EntryView}
use Rattle.hc_stored.specs.Shelf.{cells_at}
use Rattle.hc_exch.specs.Exchanges.{table_of}
use Rattle.hc_exch.specs.Known.{Table}
use Rattle.hc_model.specs.Currents.{is_number}
use Rattle.hc_txn.specs.declared.transaction.Transaction.{Transaction as Consumer}
use Rattle.hc_txn.specs.Views.{ReadsNext}
use Rattle.hc_state.specs.declared.rows.Rows.{Rows}
use Rattle.hc_state.specs.Leaving.{if_running, writer_group_of}
use Rattle.hc_state.specs.Reads.{IsShownAt, WaitsForNoHead, goes_alone, held_own}
use Rattle.hc_on_poll.specs.declared.read.Reader.{Reader}

-- the consumer c as a reader of q
abbrev pub reader_of : ℕ → ℕ → Consumer → Reader
reader_of c q k = record { c = c; r = q; offset = k.lo + k.given; hi = k.hi; own = k.own; due = k.due }

-- it was shown the head of what it reads, and this is the reader
pub record Reads (a : Reader) (k : Consumer) : Type 0 where
  pub shown : IsShownAt a.r k
  pub is : a ≡ reader_of a.c a.r k

-- it waits for no head, isn't at its end, and nothing is stored where it stands
pub record ReadsUnstored {B : Type 0} {g : Ghosts B} (r : Rows B g) (a : Reader) (k : Consumer) : Type 0 where
  pub reads : Reads a k
  pub heard : WaitsForNoHead (table_of r.exchanges) k
  pub before_end : is_at_end k.hi (k.lo + k.given) ≡ false
  pub missing : cells_at (shelf_of r.entries) a.r (k.lo + k.given) ≡ None

-- bytes are held for it, by what is told of the representation
abbrev pub is_held : Table → EntryView → Reader → Bool
is_held table view a = (view.is_lost && is_number view.alone a.c) && nat_lt 0 (held_own table a.own)

-- What it does next, where it is held something only where it goes on alone, and reads from its own open exchange or from
-- that of the writer group.
abbrev pub NextReadIs : {B : Type 0} {g : Ghosts B} → Rows B g → Reader → ReadStep → Consumer → Type 0
NextReadIs r a step k =
    let table = table_of r.exchanges in
    let e = (shelf_of r.entries).kept a.r in
    ReadsNext (cells_at (shelf_of r.entries) a.r) (goes_alone a.c e && nat_lt 0 (held_own table a.own))
    (option_or (if_running table a.own) (writer_group_of table e)) k step
