-- When a store refuses.
use Rattle.std.specs.Prelude.{◌≡◌, ℕ, ◌<◌, ◌≤◌, Result, IsOk, IsErrOf}
use Rattle.hc_rules.specs.declared.room.Limits.{Limits}
use Rattle.hc_store.specs.declared.error.StoreError.{StoreError}
use Rattle.hc_store.specs.declared.error.StoreError.TheVariants.{Fault, TooLarge, Full, NoMemory}

-- The count of faults never falls. It rises where a fault is answered, and stays where none is.
pub record HasCause {T : Type 0} (before now : ℕ) (result : Result T StoreError) : Type 0 where
  pub later : before ≤ now
  pub fault : IsErrOf result Fault → before < now
  pub calm : (IsErrOf result Fault → ⊥) → now ≡ before

-- So much would be in the slot, and so much would all slots weigh. Past a limit the write is refused as what it is, and within them it isn't; a fault may
-- come in place of either.
pub record IsWithin {T : Type 0} (limits : Limits) (entry sum : ℕ) (result : Result T StoreError) : Type 0 where
  pub ok : IsOk result → (entry ≤ limits.max_entry) × (sum ≤ limits.max_total)
  pub too_large : IsErrOf result TooLarge → limits.max_entry < entry
  pub full : IsErrOf result Full → (entry ≤ limits.max_entry) × (limits.max_total < sum)
  pub no_memory : IsErrOf result NoMemory → (entry ≤ limits.max_entry) × (sum ≤ limits.max_total)

-- The call knows no limits.
pub record HasNoLimit {T : Type 0} (result : Result T StoreError) : Type 0 where
  pub not_too_large : IsErrOf result TooLarge → ⊥
  pub not_full : IsErrOf result Full → ⊥
