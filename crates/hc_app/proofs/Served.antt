-- How the serving loop ended, and what was bound for it.
use Rattle.std.proofs.Common.{◌≡◌, ◌≢◌, ℕ, List, Option, refl}
use Rattle.hc_sched.specs.declared.schedule.Ended.{Ended}
use Rattle.hc_sched.specs.declared.schedule.Ended.TheVariants as ended
use Rattle.hc_wire.specs.{Logs.{Log}, declared.event.{Address.{Address}, WireError.{WireError}}}
use Rattle.hc_wire.specs.declared.event.WireError.TheVariants as wire
use Rattle.hc_app.specs.{declared.status.Status.{Status}, Serving.{IsServedAs, ServesFrom, done, unwired, unwritten, wanting}, Statuses.{unbound_as}}
use Rattle.hc_app.specs.declared.status.Status.TheVariants as status
use Rattle.hc_app.specs.Serving as serving

pub never_source : (e : Ended) (s : Status) → IsServedAs e s → s ≢ status.SourceFailed
never_source _ _ done = λ is. cc
never_source _ _ unwired = λ is. cc
never_source _ _ unwritten = λ is. cc
never_source _ _ wanting = λ is. cc

pub wire_is : (e : Ended) (s : Status) → IsServedAs e s → s ≡ status.WireFailed → e ≡ ended.WireFailed
wire_is _ _ done is = cc
wire_is _ _ unwired is = refl
wire_is _ _ unwritten is = cc
wire_is _ _ wanting is = cc

pub wire_off : (e : Ended) (s : Status) → IsServedAs e s → s ≢ status.WireFailed → e ≢ ended.WireFailed
wire_off _ _ done off = λ is. cc
wire_off _ _ unwired off = λ is. off refl
wire_off _ _ unwritten off = λ is. cc
wire_off _ _ wanting off = λ is. cc

pub sink_is : (e : Ended) (s : Status) → IsServedAs e s → s ≡ status.SinkFailed → e ≡ ended.SinkFailed
sink_is _ _ done is = cc
sink_is _ _ unwired is = cc
sink_is _ _ unwritten is = refl
sink_is _ _ wanting is = cc

pub sink_off : (e : Ended) (s : Status) → IsServedAs e s → s ≢ status.SinkFailed → e ≢ ended.SinkFailed
sink_off _ _ done off = λ is. cc
sink_off _ _ unwired off = λ is. cc
sink_off _ _ unwritten off = λ is. off refl
sink_off _ _ wanting off = λ is. cc

pub unbound_serves : (listen from : Address) (turns : ℕ) (reported reported' : Option Log) (out out' : Option (List ℕ)) (e : WireError) →
    reported' ≡ reported → out' ≡ out → ServesFrom listen from turns reported reported' out out' (unbound_as e)
unbound_serves listen from turns reported reported' out out' wire.WireFailed same kept = serving.unbound same kept
unbound_serves listen from turns reported reported' out out' wire.NoMemory same kept = serving.wanting_all same kept
