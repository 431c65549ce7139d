-- What a step keeps, also where it is refused.
use Rattle.std.specs.Prelude.{◌≡◌, ◌≤◌, List, Result, OnErr}
use Rattle.hc_store.specs.declared.backend.Backend.{Ghosts}
use Rattle.hc_event.specs.declared.act.Act.{Act}
use Rattle.hc_stored.specs.Entries.{shelf_of}
use Rattle.hc_state.specs.declared.rows.Rows.{Rows}

-- where it is refused nothing is told, and each fault of the store stays counted
pub record KeepsFaults {B : Type 0} {g : Ghosts B} {T E : Type 0} (result : Result T E)
    (r u : Rows B g) (before out : List Act) : Type 0 where
  pub reported : OnErr result (out ≡ before)
  pub faults : (shelf_of r.entries).faults ≤ (shelf_of u.entries).faults

-- where it is refused nothing is told, and the store doesn't fail
pub record AddsNoFault {B : Type 0} {g : Ghosts B} {T E : Type 0} (result : Result T E)
    (r u : Rows B g) (before out : List Act) : Type 0 where
  pub reported : OnErr result (out ≡ before)
  pub faults : (shelf_of u.entries).faults ≡ (shelf_of r.entries).faults

-- no exchange changes, nobody starts, and the store doesn't fail
pub record KeepsExchanges {B : Type 0} {g : Ghosts B} (r u : Rows B g) : Type 0 where
  pub last_start : u.last_start ≡ r.last_start
  pub exchanges : u.exchanges ≡ r.exchanges
  pub faults : (shelf_of u.entries).faults ≡ (shelf_of r.entries).faults
