-- What an ending says of the status that it comes to.
use Rattle.std.{proofs.Common.{◌≡◌, ◌≢◌, ℕ, List, Option, Err, refl, sym, subst, inl}, specs.Result.{IsErrOf}}
use Rattle.hc_io.specs.{Faults.{HasRisen}, Sink.{Takes, TakesPrefix}, declared.sink.SinkError.{SinkError}}
use Rattle.hc_io.specs.declared.sink.SinkError.TheVariants as sink
use Rattle.hc_sched.specs.declared.schedule.{Ended.{Ended}, Refused.{Refused}}
use Rattle.hc_sched.specs.declared.schedule.Ended.TheVariants as ended
use Rattle.hc_app.specs.{declared.status.Status.{Status}, Failing.{IsStreamStatus}, Concluding.{IsQuiet, Concludes, done, unreadable, unwritten, wanting, quiet, reported, unreported, wanting_word}, Statuses.{stopped_as}, Texts.{refusal_text}}
use Rattle.hc_app.specs.declared.status.Status.TheVariants as status
use Rattle.hc_app.proofs.Failed.{all_calm, diag_risen}

pub is_quiet : (diag : Option (List ℕ)) (d : ℕ) (e x : Ended) (s : Status) → e ≡ x → IsQuiet x s → Concludes diag diag d d e s
is_quiet diag d e x s is q = subst (λ (y : Ended). Concludes diag diag d d y s) (sym is) (quiet x s q refl refl)

module _ (diag diag' : Option (List ℕ)) (d d' : ℕ) where
  pub is_reported : (e : Ended) (r : Refused) → e ≡ ended.Refused r → Takes diag diag' (refusal_text r) → d' ≡ d → Concludes diag diag' d d' e status.Refused
  is_reported e r is said calm = subst (λ (y : Ended). Concludes diag diag' d d' y status.Refused) (sym is) (reported r said calm)

  unreported_by : (r : Refused) (error : SinkError) → TakesPrefix diag diag' (refusal_text r) →
      (IsErrOf {T = Unit {0}} (Err error) sink.SinkFailed → HasRisen d d')
      → (IsErrOf {T = Unit {0}} (Err error) sink.NoMemory → d' ≡ d) → Concludes diag diag' d d' (ended.Refused r) (stopped_as error)
  unreported_by r sink.SinkFailed front failed calm = unreported r front (failed refl)
  unreported_by r sink.NoMemory front failed calm = wanting_word r front (calm refl)

  pub is_unreported : (e : Ended) (r : Refused) (error : SinkError) → e ≡ ended.Refused r → TakesPrefix diag diag' (refusal_text r) →
      (IsErrOf {T = Unit {0}} (Err error) sink.SinkFailed → HasRisen d d')
      → (IsErrOf {T = Unit {0}} (Err error) sink.NoMemory → d' ≡ d) → Concludes diag diag' d d' e (stopped_as error)
  is_unreported e r error is front failed calm =
      subst (λ (y : Ended). Concludes diag diag' d d' y (stopped_as error)) (sym is) (unreported_by r error front failed calm)

  -- THE STREAMS

  module _ (input input' out out' : ℕ) where
    -- by the ending, which tells of the input and of the output
    pub stream_status : (e : Ended) (s : Status) → Concludes diag diag' d d' e s → (e ≡ ended.SourceFailed → HasRisen input input') →
        (e ≢ ended.SourceFailed → input' ≡ input) → (e ≡ ended.SinkFailed → HasRisen out out') → (e ≢ ended.SinkFailed → out' ≡ out)
        → IsStreamStatus input input' out out' d d' s
    stream_status _ _ (quiet _ _ done same calm) source still sinks kept =
        all_calm input input' out out' d d' status.Done (λ is. cc) (λ is. cc) (still (λ is. cc)) (kept (λ is. cc)) calm
    stream_status _ _ (quiet _ _ unreadable same calm) source still sinks kept = record {
      source_failed = λ is. source refl;
      source_calm = λ off. absurd (off refl);
      sink_failed = λ is. cc;
      sinks_calm = λ off. (kept (λ is. cc), calm);
    }
    stream_status _ _ (quiet _ _ unwritten same calm) source still sinks kept = record {
      source_failed = λ is. cc;
      source_calm = λ off. still (λ is. cc);
      sink_failed = λ is. inl (sinks refl);
      sinks_calm = λ off. absurd (off refl);
    }
    stream_status _ _ (quiet _ _ wanting same calm) source still sinks kept =
        all_calm input input' out out' d d' status.NoMemory (λ is. cc) (λ is. cc) (still (λ is. cc)) (kept (λ is. cc)) calm
    stream_status _ _ (reported r said calm) source still sinks kept =
        all_calm input input' out out' d d' status.Refused (λ is. cc) (λ is. cc) (still (λ is. cc)) (kept (λ is. cc)) calm
    stream_status _ _ (unreported r said risen) source still sinks kept = diag_risen input input' out out' d d' risen (still (λ is. cc))
    stream_status _ _ (wanting_word r said calm) source still sinks kept =
        all_calm input input' out out' d d' status.NoMemory (λ is. cc) (λ is. cc) (still (λ is. cc)) (kept (λ is. cc)) calm

  -- NO WIRE

  pub wireless : (e : Ended) (s : Status) → Concludes diag diag' d d' e s → s ≢ status.WireFailed
  wireless _ _ (quiet _ _ done same calm) = λ is. cc
  wireless _ _ (quiet _ _ unreadable same calm) = λ is. cc
  wireless _ _ (quiet _ _ unwritten same calm) = λ is. cc
  wireless _ _ (quiet _ _ wanting same calm) = λ is. cc
  wireless _ _ (reported r said calm) = λ is. cc
  wireless _ _ (unreported r said failed) = λ is. cc
  wireless _ _ (wanting_word r said calm) = λ is. cc
