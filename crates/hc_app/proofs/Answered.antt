-- How the test origin ended, and what was bound for it.
use Rattle.std.proofs.Common.{◌≡◌, ◌≢◌, ℕ, Option}
use Rattle.hc_sched.specs.declared.schedule.Ended.{Ended}
use Rattle.hc_wire.specs.{Logs.{Log}, declared.event.{Address.{Address}, WireError.{WireError}}}
use Rattle.hc_wire.specs.declared.event.WireError.TheVariants as wire
use Rattle.hc_app.specs.{declared.status.Status.{Status}, Answering.{IsEndedAs, AnswersOrigin, done, unwired, wanting}, Statuses.{unbound_as}}
use Rattle.hc_app.specs.declared.status.Status.TheVariants as status
use Rattle.hc_app.specs.Answering as answering

pub not_source : (e : Ended) (s : Status) → IsEndedAs e s → s ≢ status.SourceFailed
not_source _ _ done = λ is. cc
not_source _ _ unwired = λ is. cc
not_source _ _ wanting = λ is. cc

pub unbound_answer : (listen : Address) (turns : ℕ) (reported reported' : Option Log) (e : WireError) → reported' ≡ reported → AnswersOrigin
    listen turns reported reported' (unbound_as e)
unbound_answer listen turns reported reported' wire.WireFailed same = answering.unbound same
unbound_answer listen turns reported reported' wire.NoMemory same = answering.wanting_all same
