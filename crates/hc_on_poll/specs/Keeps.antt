-- What the steps of a poll keep.
use Rattle.std.specs.Prelude.{◌≡◌, ℕ}
use Rattle.hc_store.specs.declared.backend.Backend.{Ghosts}
use Rattle.hc_event.specs.declared.act.Need.{Need}
use Rattle.hc_event.specs.declared.event.Request.{Request}
use Rattle.hc_exch.specs.Exchanges.{next_of}
use Rattle.hc_state.specs.declared.rows.Rows.{Rows}
use Rattle.hc_state.specs.Plans.{BeginsTurn}

-- all but the consumers and what is kept by key stays
pub record KeepsBesideLine {B : Type 0} {g : Ghosts B} (r u : Rows B g) : Type 0 where
  pub last_start : u.last_start ≡ r.last_start
  pub exchanges : u.exchanges ≡ r.exchanges
  pub entries : u.entries ≡ r.entries

-- c opened the next exchange, x, and waits with the turn for its head
pub record HasBegun {B : Type 0} {g : Ghosts B} (r u : Rows B g) (now c : ℕ) (need : Need)
    (request : Request) (x : ℕ) : Type 0 where
  pub number : x ≡ next_of r.exchanges
  pub rows : BeginsTurn r u now c need request x
