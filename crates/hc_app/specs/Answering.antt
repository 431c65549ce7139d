-- What came of the test origin, by the status.
use Rattle.std.specs.Prelude.{◌≡◌, ℕ, Option, None, Some}
use Rattle.hc_origin.specs.Endings.{AnswersAs}
use Rattle.hc_sched.specs.declared.schedule.Ended.{Ended}
use Rattle.hc_sched.specs.declared.schedule.Ended.TheVariants as ended
use Rattle.hc_wire.specs.Logs.{Log, Reports, with_binding}
use Rattle.hc_wire.specs.declared.event.Address.{Address}
use Rattle.hc_app.specs.declared.status.Status.{Status}
use Rattle.hc_app.specs.declared.status.Status.TheVariants as status

-- the status of how the origin ended
pub data IsEndedAs : Ended → Status → Type 0 where
  done : IsEndedAs ended.Done status.Done
  unwired : IsEndedAs ended.WireFailed status.WireFailed
  wanting : IsEndedAs ended.NoMemory status.NoMemory

-- It listened at the address, and answered for so many turns; or nothing could be bound.
pub data AnswersOrigin (listen : Address) (turns : ℕ) (reported reported' : Option Log) : Status → Type 0 where
  answered : (s : Status) (bound : Option Log) (end : Ended) →
      Reports reported bound (with_binding (Some listen) None) → AnswersAs turns bound reported' end →
      IsEndedAs end s → AnswersOrigin listen turns reported reported' s
  unbound : reported' ≡ reported → AnswersOrigin listen turns reported reported' status.WireFailed
  wanting_all : reported' ≡ reported → AnswersOrigin listen turns reported reported' status.NoMemory
