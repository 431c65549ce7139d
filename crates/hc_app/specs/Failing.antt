-- Which counts of faults rise, by the status.
use Rattle.std.specs.Prelude.{◌≡◌, ◌≢◌, ◌⊎◌, ℕ}
use Rattle.hc_io.specs.Faults.{HasRisen}
use Rattle.hc_wire.specs.Wires as wires
use Rattle.hc_app.specs.declared.status.Status.{Status}
use Rattle.hc_app.specs.declared.status.Status.TheVariants as status

-- The count of the input rises where it failed, and that of the output or of the diagnostics where one of them did. Else they
-- stay as they are.
pub record IsStreamStatus (input input' out out' diag diag' : ℕ) (s : Status) : Type 0 where
  pub source_failed : s ≡ status.SourceFailed → HasRisen input input'
  pub source_calm : s ≢ status.SourceFailed → input' ≡ input
  pub sink_failed : s ≡ status.SinkFailed → HasRisen out out' ⊎ HasRisen diag diag'
  pub sinks_calm : s ≢ status.SinkFailed → (out' ≡ out) × (diag' ≡ diag)

-- The count of the wire rises where it failed, and else stays as it is.
pub record IsWireStatus (before now : ℕ) (s : Status) : Type 0 where
  pub failed : s ≡ status.WireFailed → wires.HasRisen before now
  pub calm : s ≢ status.WireFailed → now ≡ before
