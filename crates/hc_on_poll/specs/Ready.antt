-- What a handler of a poll finds: who may wait, leave its line or ask the origin, and what is current.
use Rattle.std.specs.Prelude.{◌≡◌, ◌<◌, ◌^◌, ℕ, nat_eq, Bool, true, false, Some, IsSomeAnd}
use Rattle.std.specs.HashMap.{get}
use Rattle.hc_event.specs.declared.act.Need.{Need}
use Rattle.hc_event.specs.declared.act.Need.TheVariants as need
use Rattle.hc_rules.specs.declared.plan.Plan.{Plan}
use Rattle.hc_rules.specs.declared.plan.Plan.TheVariants as plan
use Rattle.hc_store.specs.declared.backend.Backend.{Ghosts}
use Rattle.hc_record.specs.Head.{Head}
use Rattle.hc_stored.specs.Entries.{shelf_of}
use Rattle.hc_stored.specs.Shelf.{head_at}
use Rattle.hc_entry.specs.declared.keys.KeyTable.{KeyTable}
use Rattle.hc_exch.specs.Exchanges.{next_of}
use Rattle.hc_txn.specs.declared.transaction.Transaction.{Transaction as Consumer}
use Rattle.hc_state.specs.declared.rows.Rows.{Rows}
use Rattle.hc_state.specs.Handlers.{IsQueued}
use Rattle.hc_state.specs.Plans.{IsIdle, IsKeptPassed, IsNext, IsWaiting, HasCurrent}
use Rattle.hc_state.specs.Stands.{Stands}

-- WHO READS NOTHING YET

-- it reads nothing yet, and its key keeps it if it has passed
pub record MayQueue (keys : KeyTable) (c : ℕ) (k : Consumer) : Type 0 where
  pub idle : IsIdle k
  pub passed : IsKeptPassed keys c k

-- it reads nothing yet, and its key keeps it if it waits with others
pub record MayLeaveLine (keys : KeyTable) (c : ℕ) (k : Consumer) : Type 0 where
  pub idle : IsIdle k
  pub queued : IsQueued keys c k

-- it reads nothing yet, and its key keeps it
pub record MayPass (keys : KeyTable) (c : ℕ) (k : Consumer) : Type 0 where
  pub idle : IsIdle k
  pub waits : IsWaiting keys c k

-- it reads nothing yet, and its turn is next
pub record MayAsk (keys : KeyTable) (c : ℕ) (k : Consumer) : Type 0 where
  pub idle : IsIdle k
  pub next : IsNext keys c k

-- WHAT THE ROWS HAVE

-- The rows represent some tables, and there is a number for one more exchange.
pub record MayOpen {B : Type 0} {g : Ghosts B} (r : Rows B g) : Type 0 where
  pub stands : ∥ Stands r ∥₁
  pub few : next_of r.exchanges < 2 ^ 62

-- q is current for the key of c, and this head is stored of it
pub record IsCurrentWith {B : Type 0} {g : Ghosts B} (r : Rows B g) (c q : ℕ) (stored : Head) :
    Type 0 where
  pub current : IsSomeAnd (get nat_eq r.consumers c) (HasCurrent r.keys q)
  pub head : head_at (shelf_of r.entries) q ≡ Some stored

-- WHAT A PLAN NEEDS

abbrev pub is_validating : Need → Bool
is_validating need.Validate = true
is_validating _ = false

-- it is carried out with the stored head of what is current, or names that
abbrev pub uses_stored : Plan → Bool
uses_stored (plan.Fetch n) = is_validating n
uses_stored (plan.Bind why span) = true
uses_stored (plan.FirstHole span hole) = true
uses_stored (plan.Busy d kept) = true
uses_stored _ = false
