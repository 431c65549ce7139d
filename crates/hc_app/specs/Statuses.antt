-- Exit statuses.
use Rattle.std.specs.Prelude.{ℕ}
use Rattle.hc_io.specs.declared.sink.SinkError.{SinkError}
use Rattle.hc_io.specs.declared.sink.SinkError.TheVariants as sink
use Rattle.hc_wire.specs.declared.event.WireError.{WireError}
use Rattle.hc_wire.specs.declared.event.WireError.TheVariants as wire
use Rattle.hc_app.specs.declared.status.Status.{Status}
use Rattle.hc_app.specs.declared.status.Status.TheVariants as status

abbrev pub code_of : Status → ℕ
code_of status.Done = 0
code_of status.Refused = 1
code_of status.Usage = 2
code_of status.SourceFailed = 3
code_of status.SinkFailed = 4
code_of status.WireFailed = 5
code_of status.NoMemory = 6
code_of status.ImageRefused = 7
code_of status.FetchStopped = 8

-- how the program ends where a write gave up
abbrev pub stopped_as : SinkError → Status
stopped_as sink.SinkFailed = status.SinkFailed
stopped_as sink.NoMemory = status.NoMemory

-- how it ends where nothing could be bound
abbrev pub unbound_as : WireError → Status
unbound_as wire.WireFailed = status.WireFailed
unbound_as wire.NoMemory = status.NoMemory
