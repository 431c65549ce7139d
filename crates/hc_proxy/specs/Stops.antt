-- How the loop ends by what stops it.
use Rattle.std.specs.Prelude.{Result, Ok, Err}
use Rattle.hc_io.specs.declared.sink.SinkError.{SinkError}
use Rattle.hc_io.specs.declared.sink.SinkError.TheVariants as sink
use Rattle.hc_sched.specs.declared.schedule.Ended.{Ended}
use Rattle.hc_sched.specs.declared.schedule.Ended.TheVariants as ended
use Rattle.hc_wire.specs.declared.event.WireError.{WireError}
use Rattle.hc_wire.specs.declared.event.WireError.TheVariants as wire
use Rattle.hc_proxy.specs.declared.stop.Stop.{Stop}
use Rattle.hc_proxy.specs.declared.stop.Stop.TheVariants as stop

abbrev pub ended_by : Stop → Ended
ended_by stop.SinkFailed = ended.SinkFailed
ended_by stop.WireFailed = ended.WireFailed
ended_by stop.NoMemory = ended.NoMemory

abbrev pub of_wire : WireError → Stop
of_wire wire.WireFailed = stop.WireFailed
of_wire wire.NoMemory = stop.NoMemory

abbrev pub of_sink : SinkError → Stop
of_sink sink.SinkFailed = stop.SinkFailed
of_sink sink.NoMemory = stop.NoMemory

abbrev pub ended_as : Result (Unit {0}) Stop → Ended
ended_as (Ok done) = ended.Done
ended_as (Err e) = ended_by e
