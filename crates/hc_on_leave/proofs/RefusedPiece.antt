-- The store refuses a piece for which room was made: why.
use Rattle.std.{proofs.{Common.{◌≡◌, ℕ, ◌+◌, ◌<◌, ◌≤◌, List, true, false, Option, Some, None, refl, subst, arith}, lemmas.Bool.Decides.{nat_tests}}, specs.Prelude.{nat_lt, Result, Err, if◌then◌else◌}}
use Rattle.hc_text.proofs.Basics.{some_inj as some_is}
use Rattle.hc_store.specs.{Causes.{HasCause, IsWithin}, declared.error.StoreError.{StoreError, TheVariants.{the_data as errors}}}
use Rattle.hc_effects.proofs.Vocabulary.{LostKind, room_of, gives_way, Limits, kind as kinds, room, write}
use Rattle.hc_rules.specs.Rooms as rooms
use Rattle.hc_state.specs.Room.{loss_by}

-- WHY

pub too_large : (limits : Limits) (sum n m : ℕ) (ws : List ℕ) → limits.max_entry < n + m → room_of limits sum (write.Piece n m) ws ≡ room.TooLarge
unfolding room_of
too_large limits sum n m ws more = let on : nat_lt limits.max_entry (n + m) ≡ true = grind (arith, nat_tests, more) in rw on refl

pub not_large : (limits : Limits) (sum n m : ℕ) (ws : List ℕ) → n + m ≤ limits.max_entry → room_of limits sum (write.Piece n m) ws ≡ room.TooLarge → ⊥
unfolding room_of
not_large limits sum n m ws fits is = grind (arith, nat_tests)

-- by what the store says of the write
pub data Refused (limits : Limits) (entry sum : ℕ) (faults after : ℕ) : LostKind → Type 0 where
  fault : faults < after → Refused limits entry sum faults after kinds.Fault
  large : limits.max_entry < entry → Refused limits entry sum faults after kinds.TooLarge
  full : entry ≤ limits.max_entry → limits.max_total < sum → Refused limits entry sum faults after kinds.Full

pub refused_by : {T : Type 0} (limits : Limits) (entry sum faults after : ℕ) (result : Result T StoreError) (error : StoreError) (kind : LostKind) →
    result ≡ Err error → loss_by error ≡ Some kind → IsWithin limits entry sum result → HasCause faults after result →
    Refused limits entry sum faults after kind
refused_by limits entry sum faults after result errors.Fault kind is loss within cause =
    subst (Refused limits entry sum faults after) (some_is kinds.Fault kind loss) (fault (cause.fault (rw is refl)))
refused_by limits entry sum faults after result errors.TooLarge kind is loss within cause =
    subst (Refused limits entry sum faults after) (some_is kinds.TooLarge kind loss) (large (within.too_large (rw is refl)))
refused_by limits entry sum faults after result errors.Full kind is loss within cause =
    subst (Refused limits entry sum faults after) (some_is kinds.Full kind loss) (let both = within.full (rw is refl) in full both.0 both.1)
refused_by limits entry sum faults after result errors.NoMemory kind is loss within cause = absurd (let never : None ≡ Some kind = loss in cc)
