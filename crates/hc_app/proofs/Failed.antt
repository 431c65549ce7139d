-- What a status says of the counts of faults.
use Rattle.std.{proofs.Common.{◌≡◌, ◌≢◌, ℕ, Err, refl, inr}, specs.Result.{IsErrOf}}
use Rattle.hc_io.specs.{Faults.{HasRisen}, declared.sink.SinkError.{SinkError}}
use Rattle.hc_io.specs.declared.sink.SinkError.TheVariants as sink
use Rattle.hc_app.specs.{declared.status.Status.{Status}, Failing.{IsStreamStatus, IsWireStatus}, Statuses.{stopped_as}}
use Rattle.hc_app.specs.declared.status.Status.TheVariants as status

module _ (input input' out out' diag diag' : ℕ) where
  -- no count rises
  pub all_calm : (s : Status) → s ≢ status.SourceFailed → s ≢ status.SinkFailed → input' ≡ input → out' ≡ out → diag' ≡ diag →
      IsStreamStatus input input' out out' diag diag' s
  all_calm s source sinks still kept calm =
      record { source_failed = λ is. absurd (source is); source_calm = λ off. still; sink_failed = λ is. absurd (sinks is); sinks_calm = λ off. (kept, calm) }

  -- that of the diagnostics does
  pub diag_risen : HasRisen diag diag' → input' ≡ input → IsStreamStatus input input' out out' diag diag' status.SinkFailed
  diag_risen risen still = record { source_failed = λ is. cc; source_calm = λ off. still; sink_failed = λ is. inr risen; sinks_calm = λ off. absurd (off refl) }

module _ (input out diag diag' : ℕ) where
  -- only a write to the diagnostics gave up
  pub stopped_status : (e : SinkError) → (IsErrOf {T = Unit {0}} (Err e) sink.SinkFailed → HasRisen diag diag') →
      (IsErrOf {T = Unit {0}} (Err e) sink.NoMemory → diag' ≡ diag) → IsStreamStatus input input out out diag diag' (stopped_as e)
  stopped_status sink.SinkFailed failed calm = diag_risen input input out out diag diag' (failed refl) refl
  stopped_status sink.NoMemory failed calm = all_calm input input out out diag diag' status.NoMemory (λ is. cc) (λ is. cc) refl refl (calm refl)

-- the wire wasn't used
pub wire_still : (n : ℕ) (s : Status) → s ≢ status.WireFailed → IsWireStatus n n s
wire_still n s off = record { failed = λ is. absurd (off is); calm = λ other. refl }

pub stopped_wireless : (e : SinkError) → stopped_as e ≢ status.WireFailed
stopped_wireless sink.SinkFailed = λ is. cc
stopped_wireless sink.NoMemory = λ is. cc
