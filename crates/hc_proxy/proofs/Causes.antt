-- Why a turn stops: the wire and the sink failed only where they counted that.
--
-- Each step calls the wire alone, the sink alone, or neither. Where one of them fails it counts that, and where it
-- doesn't nothing is counted (their contracts). So the cause of a turn is that of the step that stopped it, and the
-- loop ends by it. `by_wire`, `by_next` and `by_sink` are of such steps, `ends_sink` and `ends_wire_calm` of the loop.
use Rattle.std.{proofs.Common.{◌≡◌, ℕ, Ok, Err, refl, ap, sym, ◌∙◌, subst}, specs.Prelude.{Result, IsErrAnd}}
use Rattle.hc_io.specs.Faults as sink
use Rattle.hc_io.specs.{Sink.{HasSinkCause}, declared.sink.SinkError.{SinkError}}
use Rattle.hc_io.specs.declared.sink.SinkError.TheVariants as sink_error
use Rattle.hc_sched.specs.declared.schedule.Ended.TheVariants as ended
use Rattle.hc_wire.specs.{Wires.{HasRisen, HasWireCause}, declared.event.WireError.{WireError}}
use Rattle.hc_wire.specs.declared.event.WireError.TheVariants as wire_error
use Rattle.hc_proxy.specs.{declared.stop.Stop.{Stop}, Endings.{MayEnd}, Serving.{HasCauses}, Stops.{ended_as, of_sink, of_wire}, TurnSteps.{HasStopCause}}
use Rattle.hc_proxy.specs.declared.stop.Stop.TheVariants as stop

pub err_is : {T : Type 0} (result : Result T Stop) (e : Stop) → IsErrAnd result (λ s. s ≡ e) → result ≡ Err e
err_is (Ok x) e is = absurd is
err_is (Err s) e is = ap Err is

err_of : {T : Type 0} (a b : Stop) → (let r : Result T Stop = Err a in r) ≡ Err b → a ≡ b
err_of a b is = cc

pub calm_err : {T : Type 0} (w w' k k' : ℕ) (result : Result T Stop) → result ≡ Err stop.NoMemory → w' ≡ w → k' ≡ k → HasCauses w w' k k' result
calm_err w w' k k' result is same same' = record {
  wire_failed = λ failed. absurd (let never : stop.NoMemory ≡ stop.WireFailed = err_of stop.NoMemory stop.WireFailed (sym is ∙ failed) in cc);
  wire_calm = λ off. same;
  sink_failed = λ failed. absurd (let never : stop.NoMemory ≡ stop.SinkFailed = err_of stop.NoMemory stop.SinkFailed (sym is ∙ failed) in cc);
  sink_calm = λ off. same';
}

-- of another answer
pub causes_as : {A T : Type 0} (w w' k k' : ℕ) (e : Stop) → HasCauses {T = A} w w' k k' (Err e) → HasCauses {T = T} w w' k k' (Err e)
causes_as w w' k k' e c = record {
  wire_failed = λ failed. c.wire_failed (ap Err (err_of e stop.WireFailed failed));
  wire_calm = λ off. c.wire_calm (λ failed. off (ap Err (err_of e stop.WireFailed failed)));
  sink_failed = λ failed. c.sink_failed (ap Err (err_of e stop.SinkFailed failed));
  sink_calm = λ off. c.sink_calm (λ failed. off (ap Err (err_of e stop.SinkFailed failed)));
}

-- the counts before it are those at first
pub causes_from : {T : Type 0} (w0 w w' k0 k k' : ℕ) (result : Result T Stop) → w ≡ w0 → k ≡ k0 → HasCauses w w' k k' result → HasCauses w0 w' k0 k' result
causes_from w0 w w' k0 k k' result same same' c = subst (λ m. HasCauses m w' k0 k' result) same (subst (λ m. HasCauses w w' m k' result) same' c)

-- nothing failed
pub wire_kept : {T : Type 0} (w w' k k' : ℕ) (v : T) → HasCauses w w' k k' (Ok v) → w' ≡ w
wire_kept w w' k k' v c = c.wire_calm (λ is. let never : Ok v ≡ Err stop.WireFailed = is in cc)

pub sink_kept : {T : Type 0} (w w' k k' : ℕ) (v : T) → HasCauses w w' k k' (Ok v) → k' ≡ k
sink_kept w w' k k' v c = c.sink_calm (λ is. let never : Ok v ≡ Err stop.SinkFailed = is in cc)

pub calm_ok : {T : Type 0} (w w' k k' : ℕ) (v : T) → w' ≡ w → k' ≡ k → HasCauses w w' k k' (Ok v)
calm_ok w w' k k' v same same' = record {
  wire_failed = λ failed. absurd (let never : Ok v ≡ Err stop.WireFailed = failed in cc);
  wire_calm = λ off. same;
  sink_failed = λ failed. absurd (let never : Ok v ≡ Err stop.SinkFailed = failed in cc);
  sink_calm = λ off. same';
}

-- a step that calls the wire alone
pub by_wire : {A T : Type 0} (w w' k k' : ℕ) (e : Stop) → HasStopCause {T = A} w w' (Err e) → k' ≡ k → HasCauses {T = T} w w' k k' (Err e)
by_wire w w' k k' stop.SinkFailed c same = absurd (c.no_sink refl)
by_wire w w' k k' stop.WireFailed c same = record {
  wire_failed = λ failed. c.failed refl;
  wire_calm = λ off. absurd (off refl);
  sink_failed = λ failed. absurd (let never : stop.WireFailed ≡ stop.SinkFailed = err_of stop.WireFailed stop.SinkFailed failed in cc);
  sink_calm = λ off. same;
}
by_wire w w' k k' stop.NoMemory c same = record {
  wire_failed = λ failed. absurd (let never : stop.NoMemory ≡ stop.WireFailed = err_of stop.NoMemory stop.WireFailed failed in cc);
  wire_calm = λ off. c.no_fault refl;
  sink_failed = λ failed. absurd (let never : stop.NoMemory ≡ stop.SinkFailed = err_of stop.NoMemory stop.SinkFailed failed in cc);
  sink_calm = λ off. same;
}

-- the call of `next`
pub by_next : {A T : Type 0} (w w' k : ℕ) (e : WireError) → HasWireCause {T = A} w w' (Err e) → HasCauses {T = T} w w' k k (Err (of_wire e))
by_next w w' k wire_error.WireFailed c = record {
  wire_failed = λ failed. c.failed refl;
  wire_calm = λ off. absurd (off refl);
  sink_failed = λ failed. absurd (let never : stop.WireFailed ≡ stop.SinkFailed = err_of stop.WireFailed stop.SinkFailed failed in cc);
  sink_calm = λ off. refl;
}
by_next w w' k wire_error.NoMemory c = record {
  wire_failed = λ failed. absurd (let never : stop.NoMemory ≡ stop.WireFailed = err_of stop.NoMemory stop.WireFailed failed in cc);
  wire_calm = λ off. c.no_fault refl;
  sink_failed = λ failed. absurd (let never : stop.NoMemory ≡ stop.SinkFailed = err_of stop.NoMemory stop.SinkFailed failed in cc);
  sink_calm = λ off. refl;
}

-- the writing
pub by_sink : {A T : Type 0} (w k k' : ℕ) (e : SinkError) → HasSinkCause {T = A} k k' (Err e) → (e ≡ sink_error.NoMemory → k' ≡ k) →
    HasCauses {T = T} w w k k' (Err (of_sink e))
by_sink w k k' sink_error.SinkFailed c calm = record {
  wire_failed = λ failed. absurd (let never : stop.SinkFailed ≡ stop.WireFailed = err_of stop.SinkFailed stop.WireFailed failed in cc);
  wire_calm = λ off. refl;
  sink_failed = λ failed. c.failed refl;
  sink_calm = λ off. absurd (off refl);
}
by_sink w k k' sink_error.NoMemory c calm = record {
  wire_failed = λ failed. absurd (let never : stop.NoMemory ≡ stop.WireFailed = err_of stop.NoMemory stop.WireFailed failed in cc);
  wire_calm = λ off. refl;
  sink_failed = λ failed. absurd (let never : stop.NoMemory ≡ stop.SinkFailed = err_of stop.NoMemory stop.SinkFailed failed in cc);
  sink_calm = λ off. calm refl;
}

-- how the loop ends by it
pub may_end : (result : Result (Unit {0}) Stop) → MayEnd (ended_as result)
may_end (Ok done) = tt
may_end (Err stop.SinkFailed) = tt
may_end (Err stop.WireFailed) = tt
may_end (Err stop.NoMemory) = tt

module _ (w w' k k' : ℕ) where
  pub ends_wire : (result : Result (Unit {0}) Stop) → HasCauses w w' k k' result → ended_as result ≡ ended.WireFailed → HasRisen w w'
  ends_wire (Ok done) c is = absurd (let never : ended.Done ≡ ended.WireFailed = is in cc)
  ends_wire (Err stop.SinkFailed) c is = absurd (let never : ended.SinkFailed ≡ ended.WireFailed = is in cc)
  ends_wire (Err stop.WireFailed) c is = c.wire_failed refl
  ends_wire (Err stop.NoMemory) c is = absurd (let never : ended.NoMemory ≡ ended.WireFailed = is in cc)

  pub ends_wire_calm : (result : Result (Unit {0}) Stop) → HasCauses w w' k k' result → (ended_as result ≡ ended.WireFailed → ⊥) → w' ≡ w
  ends_wire_calm (Ok done) c off = c.wire_calm (λ is. let never : Ok done ≡ Err stop.WireFailed = is in cc)
  ends_wire_calm (Err stop.SinkFailed) c off =
      c.wire_calm (λ is. let never : stop.SinkFailed ≡ stop.WireFailed = err_of stop.SinkFailed stop.WireFailed is in cc)
  ends_wire_calm (Err stop.WireFailed) c off = absurd (off refl)
  ends_wire_calm (Err stop.NoMemory) c off = c.wire_calm (λ is. let never : stop.NoMemory ≡ stop.WireFailed = err_of stop.NoMemory stop.WireFailed is in cc)

  pub ends_sink : (result : Result (Unit {0}) Stop) → HasCauses w w' k k' result → ended_as result ≡ ended.SinkFailed → sink.HasRisen k k'
  ends_sink (Ok done) c is = absurd (let never : ended.Done ≡ ended.SinkFailed = is in cc)
  ends_sink (Err stop.SinkFailed) c is = c.sink_failed refl
  ends_sink (Err stop.WireFailed) c is = absurd (let never : ended.WireFailed ≡ ended.SinkFailed = is in cc)
  ends_sink (Err stop.NoMemory) c is = absurd (let never : ended.NoMemory ≡ ended.SinkFailed = is in cc)

  pub ends_sink_calm : (result : Result (Unit {0}) Stop) → HasCauses w w' k k' result → (ended_as result ≡ ended.SinkFailed → ⊥) → k' ≡ k
  ends_sink_calm (Ok done) c off = c.sink_calm (λ is. let never : Ok done ≡ Err stop.SinkFailed = is in cc)
  ends_sink_calm (Err stop.SinkFailed) c off = absurd (off refl)
  ends_sink_calm (Err stop.WireFailed) c off =
      c.sink_calm (λ is. let never : stop.WireFailed ≡ stop.SinkFailed = err_of stop.WireFailed stop.SinkFailed is in cc)
  ends_sink_calm (Err stop.NoMemory) c off = c.sink_calm (λ is. let never : stop.NoMemory ≡ stop.SinkFailed = err_of stop.NoMemory stop.SinkFailed is in cc)
