-- Which calls of a store fail, by a list.
use Rattle.std.specs.Prelude.{◌≡◌, ℕ, ◌+◌, true, false, is_some, Result, IsErrOf, if◌then◌else◌}
use Rattle.hc_store.specs.declared.error.StoreError.{StoreError}
use Rattle.hc_store.specs.declared.error.StoreError.TheVariants.{Fault}
use Rattle.hc_store.specs.declared.failing.Op.{Op}
use Rattle.hc_store.specs.declared.failing.Failing.{Failing}
use Rattle.hc_store.specs.Calls.{calls_with, place_in, list_without}
use Rattle.hc_store.specs.Causes.{HasCause}

-- A call of this kind fails where it is listed, and leaves the store within as it was. Else a fault is one that the store
-- within counted. The call is counted by its kind, a listed one as one fault, and its entry is used up.
pub record FailsAsListed {B T : Type 0} (faults : B → ℕ) (op : Op) (s t : Failing B) (result : Result T StoreError) : Type 0 where
  pub listed : is_some (place_in op s.calls s.fails.items) ≡ true → IsErrOf result Fault × (t.inner ≡ s.inner)
  pub unlisted : is_some (place_in op s.calls s.fails.items) ≡ false → HasCause (faults s.inner) (faults t.inner) result
  pub calls : t.calls ≡ calls_with op s.calls
  pub failed : t.failed ≡ s.failed + (if is_some (place_in op s.calls s.fails.items) then 1 else 0)
  pub fails : t.fails.items ≡ list_without (place_in op s.calls s.fails.items) s.fails.items
