-- What it takes that a consumer leaves, or that an exchange is closed, and what stays as it is.
use Rattle.std.specs.Prelude.{◌≡◌, ℕ, Bool, true, false, is_some, nat_eq}
use Rattle.std.specs.HashMap.{get}
use Rattle.hc_event.specs.declared.place.Place.{Place}
use Rattle.hc_event.specs.declared.place.Place.TheVariants as place
use Rattle.hc_event.specs.declared.place.BoundBy.TheVariants as by
use Rattle.hc_store.specs.declared.backend.Backend.{Ghosts}
use Rattle.hc_stored.specs.Entries.{shelf_of}
use Rattle.hc_exch.specs.Exchanges.{table_of}
use Rattle.hc_exch.specs.Known.{is_open}
use Rattle.hc_state.specs.declared.rows.Rows.{Rows}
use Rattle.hc_state.specs.Changes.{KeepsLive}
use Rattle.hc_state.specs.Stands.{Stands}
use Rattle.hc_state.specs.Stored.{KnowsShort}

-- the rows represent tables, and c is live
pub record MayLeave {B : Type 0} {g : Ghosts B} (r : Rows B g) (c : ℕ) : Type 0 where
  pub stands : ∥ Stands r ∥₁
  pub live : is_some (get nat_eq r.consumers c) ≡ true

-- x is open, and each length that is told is short enough for a store
pub record MayClose {B : Type 0} {g : Ghosts B} (r : Rows B g) (x : ℕ) : Type 0 where
  pub running : is_open x (table_of r.exchanges) ≡ true
  pub short : KnowsShort (shelf_of r.entries)

-- who is live, who started last, the exchanges and the count of failures stay
pub record KeepsAround {B : Type 0} {g : Ghosts B} (r u : Rows B g) : Type 0 where
  pub live : KeepsLive r.consumers u.consumers
  pub last_start : u.last_start ≡ r.last_start
  pub exchanges : u.exchanges ≡ r.exchanges
  pub faults : (shelf_of u.entries).faults ≡ (shelf_of r.entries).faults

-- whoever stands there may wait for its key: in line, passed, or for the head of its first hole
abbrev pub may_wait : Place → Bool
may_wait place.Line = true
may_wait (place.Passed r kept) = true
may_wait (place.Turn x) = true
may_wait (place.Bound r lo hi (by.FirstHole x)) = true
may_wait _ = false
