-- What a head leaves as it was.
use Rattle.std.specs.Prelude.{◌≡◌, Result, OnErr}
use Rattle.hc_store.specs.Causes.{HasCause, HasNoLimit}
use Rattle.hc_store.specs.declared.backend.Backend.{Ghosts}
use Rattle.hc_store.specs.declared.error.StoreError.{StoreError}
use Rattle.hc_stored.specs.Entries.{shelf_of}
use Rattle.hc_state.specs.declared.rows.Rows.{Rows}
use Rattle.hc_state.specs.Renewals.{IsUnrenewed}
use Rattle.hc_state.specs.Stands.{KeepsRest}

-- exchanges alone change
pub record ChangesExchanges {B : Type 0} {g : Ghosts B} (r u : Rows B g) : Type 0 where
  pub consumers : u.consumers ≡ r.consumers
  pub rest : KeepsRest r u

-- It fails by a fault, which is counted, or for want of memory. All stays then.
pub record FailsUnrenewed {A B : Type 0} {g : Ghosts B} (result : Result A StoreError) (r u : Rows B g) : Type 0 where
  pub err : OnErr result (IsUnrenewed r u)
  pub no_limit : HasNoLimit result
  pub cause : HasCause (shelf_of r.entries).faults (shelf_of u.entries).faults result
