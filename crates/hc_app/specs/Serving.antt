-- What came of the serving loop, by the status.
use Rattle.std.specs.Prelude.{◌≡◌, ℕ, List, Option, Some}
use Rattle.hc_model.specs.Entries.{no_contents}
use Rattle.hc_proxy.specs.Recorded.{Records}
use Rattle.hc_proxy.specs.Served.{ServesAs}
use Rattle.hc_sched.specs.declared.schedule.Ended.{Ended}
use Rattle.hc_sched.specs.declared.schedule.Ended.TheVariants as ended
use Rattle.hc_wire.specs.Logs.{Log, Reports, with_binding}
use Rattle.hc_wire.specs.declared.event.Address.{Address}
use Rattle.hc_app.specs.declared.status.Status.{Status}
use Rattle.hc_app.specs.declared.status.Status.TheVariants as status
use Rattle.hc_app.specs.Owing.{Streams}
use Rattle.hc_app.specs.Replaying.{store_limits}

-- the status of how the loop ended
pub data IsServedAs : Ended → Status → Type 0 where
  done : IsServedAs ended.Done status.Done
  unwired : IsServedAs ended.WireFailed status.WireFailed
  unwritten : IsServedAs ended.SinkFailed status.SinkFailed
  wanting : IsServedAs ended.NoMemory status.NoMemory

-- It listened at one address and dialled the other, and served for so many turns from an empty store. Its record went to the
-- output, which is a schedule whatever the wire tells; or nothing could be bound.
pub data ServesFrom (listen origin : Address) (turns : ℕ) (reported reported' : Option Log) (out out' : Option (List ℕ)) : Status → Type 0 where
  served : (s : Status) (bound : Option Log) (end : Ended) →
      Reports reported bound (with_binding (Some listen) (Some origin)) →
      ServesAs store_limits turns bound reported' out out' end →
      Records store_limits no_contents out out' end → IsServedAs end s →
      ServesFrom listen origin turns reported reported' out out' s
  unbound : reported' ≡ reported → out' ≡ out → ServesFrom listen origin turns reported reported' out out' status.WireFailed
  wanting_all : reported' ≡ reported → out' ≡ out → ServesFrom listen origin turns reported reported' out out' status.NoMemory

-- nothing was read, and nothing was said
pub record IsSilent (before after : Streams) : Type 0 where
  pub unread : after.left ≡ before.left
  pub unsaid : after.diag ≡ before.diag
  pub sound : after.diag_faults ≡ before.diag_faults
