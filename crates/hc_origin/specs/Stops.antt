-- Why a turn isn't finished.
use Rattle.std.specs.Prelude.{◌≡◌, ℕ, Result, Ok, Err, IsErrOf, OnOk}
use Rattle.hc_sched.specs.declared.schedule.Ended.{Ended}
use Rattle.hc_sched.specs.declared.schedule.Ended.TheVariants as ended
use Rattle.hc_wire.specs.Wires.{HasRisen}
use Rattle.hc_wire.specs.declared.event.WireError.{WireError}
use Rattle.hc_wire.specs.declared.event.WireError.TheVariants as error
use Rattle.hc_origin.specs.declared.stop.Stop.{Stop}
use Rattle.hc_origin.specs.declared.stop.Stop.TheVariants as stop

abbrev pub ended_by : Stop → Ended
ended_by stop.WireFailed = ended.WireFailed
ended_by stop.NoMemory = ended.NoMemory

abbrev pub ended_as : {A : Type 0} → Result A Stop → Ended
ended_as (Ok done) = ended.Done
ended_as (Err e) = ended_by e

abbrev pub of_wire : WireError → Stop
of_wire error.WireFailed = stop.WireFailed
of_wire error.NoMemory = stop.NoMemory

-- The count of faults never falls, and rises exactly where the wire failed; at its end it stands still.
pub record HasStopCause {T : Type 0} (before now : ℕ) (result : Result T Stop) : Type 0 where
  pub failed : IsErrOf result stop.WireFailed → HasRisen before now
  pub calm : OnOk result (now ≡ before)
  pub no_fault : IsErrOf result stop.NoMemory → now ≡ before
