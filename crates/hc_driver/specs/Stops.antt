-- Why a schedule is not gone through any further.
use Rattle.std.specs.Prelude.{◌≡◌, ℕ, Result, Ok, Err}
use Rattle.hc_io.specs.Faults.{HasRisen}
use Rattle.hc_io.specs.declared.sink.SinkError.{SinkError}
use Rattle.hc_io.specs.declared.sink.SinkError.TheVariants as sink
use Rattle.hc_sched.specs.declared.schedule.Ended.{Ended}
use Rattle.hc_sched.specs.declared.schedule.Ended.TheVariants as ended
use Rattle.hc_sched.specs.declared.schedule.FeedError.{FeedError}
use Rattle.hc_sched.specs.declared.schedule.FeedError.TheVariants as error
use Rattle.hc_driver.specs.declared.stop.Stop.{Stop}
use Rattle.hc_driver.specs.declared.stop.Stop.TheVariants as stop

abbrev pub of_feed : FeedError → Stop
of_feed (error.Refused refused) = stop.Refused refused
of_feed error.NoMemory = stop.NoMemory

abbrev pub of_sink : SinkError → Stop
of_sink sink.SinkFailed = stop.SinkFailed
of_sink sink.NoMemory = stop.NoMemory

-- how a command ends by it
abbrev pub ended_by : Stop → Ended
ended_by stop.Over = ended.Done
ended_by (stop.Refused refused) = ended.Refused refused
ended_by stop.SourceFailed = ended.SourceFailed
ended_by stop.SinkFailed = ended.SinkFailed
ended_by stop.NoMemory = ended.NoMemory

abbrev pub ended_as : {T : Type 0} → Result T Stop → Ended
ended_as (Ok done) = ended.Done
ended_as (Err stop) = ended_by stop

-- the sink failed only where it counted that, and counted nothing where it didn't
abbrev pub HasStopCause : ℕ → ℕ → Result (Unit {0}) Stop → Type 0
HasStopCause before now (Err stop.SinkFailed) = HasRisen before now
HasStopCause before now _ = now ≡ before
