-- When a call of a wire fails.
use Rattle.std.specs.Prelude.{◌≡◌, ◌⊎◌, ℕ, ◌-◌, ◌<◌, ◌≤◌, ◌^◌, Result, OnOk, IsErrOf}
use Rattle.hc_wire.specs.declared.event.WireError.{WireError}
use Rattle.hc_wire.specs.declared.event.WireError.TheVariants as error

-- A count rose. At its end it counts as risen.
abbrev pub HasRisen : ℕ → ℕ → Type 0
HasRisen before now = (before < now) ⊎ (now ≡ 2 ^ 64 - 1)

-- The count of faults never falls, and rises exactly where the call answers WireFailed; at its end it stands still.
pub record HasWireCause {T : Type 0} (before now : ℕ) (result : Result T WireError) : Type 0 where
  pub later : before ≤ now
  pub failed : IsErrOf result error.WireFailed → HasRisen before now
  pub calm : OnOk result (now ≡ before)
  pub no_fault : IsErrOf result error.NoMemory → now ≡ before
