-- What it takes that a piece is stored, or is held until it is read.
use Rattle.std.specs.Prelude.{◌≡◌, ◌+◌, ◌<◌, ◌≤◌, ◌^◌, ℕ, true, Option, None}
use Rattle.hc_store.specs.declared.backend.Backend.{Ghosts}
use Rattle.hc_rules.specs.Refusals.{piece_refusal}
use Rattle.hc_stored.specs.Entries.{shelf_of}
use Rattle.hc_stored.specs.Shelf.{Shelf, is_kept}
use Rattle.hc_exch.specs.Exchanges.{table_of}
use Rattle.hc_exch.specs.Known.{EndsBelow}
use Rattle.hc_state.specs.declared.rows.Rows.{Rows}
use Rattle.hc_state.specs.Pieces.{stored_by}
use Rattle.hc_state.specs.Stands.{Stands, open_at}

-- the rows represent tables, a piece of n bytes of x is accepted, and this grows by it, if anything does
pub record IsPieceFor {B : Type 0} {g : Ghosts B} (r : Rows B g) (x n : ℕ) (grows : Option ℕ) : Type 0 where
  pub stands : ∥ Stands r ∥₁
  pub accepted : piece_refusal (open_at r x) n ≡ None
  pub short : n ≤ 65536
  pub stored : stored_by r x ≡ grows

-- q is kept, a piece of n bytes of x is accepted, and it ends where bytes may be stored
pub record MayBring {B : Type 0} {g : Ghosts B} (r : Rows B g) (x q n : ℕ) : Type 0 where
  pub there : is_kept (shelf_of r.entries) q ≡ true
  pub accepted : piece_refusal (open_at r x) n ≡ None
  pub below : EndsBelow n (table_of r.exchanges x).running

-- q is kept, and n bytes, at least one, may be stored in it from p on
pub record HasPlace (s : Shelf) (q p n : ℕ) : Type 0 where
  pub there : is_kept s q ≡ true
  pub some : 0 < n
  pub end : p + n ≤ 2 ^ 62
