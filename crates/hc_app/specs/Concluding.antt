-- How an ending is told, and the status that it comes to.
use Rattle.std.specs.Prelude.{◌≡◌, ℕ, List, Option}
use Rattle.hc_io.specs.Faults.{HasRisen}
use Rattle.hc_io.specs.Sink.{Takes, TakesPrefix}
use Rattle.hc_sched.specs.declared.schedule.Ended.{Ended}
use Rattle.hc_sched.specs.declared.schedule.Ended.TheVariants as ended
use Rattle.hc_sched.specs.declared.schedule.Refused.{Refused}
use Rattle.hc_app.specs.declared.status.Status.{Status}
use Rattle.hc_app.specs.declared.status.Status.TheVariants as status
use Rattle.hc_app.specs.Texts.{refusal_text}

-- nothing is to be told of this ending, which comes to this status
pub data IsQuiet : Ended → Status → Type 0 where
  done : IsQuiet ended.Done status.Done
  unreadable : IsQuiet ended.SourceFailed status.SourceFailed
  unwritten : IsQuiet ended.SinkFailed status.SinkFailed
  wanting : IsQuiet ended.NoMemory status.NoMemory

-- What the diagnostics took of an ending, by the status.
pub data Concludes (diag diag' : Option (List ℕ)) (faults faults' : ℕ) : Ended → Status → Type 0 where
  quiet : (e : Ended) (s : Status) → IsQuiet e s → diag' ≡ diag → faults' ≡ faults →
      Concludes diag diag' faults faults' e s
  reported : (refused : Refused) → Takes diag diag' (refusal_text refused) → faults' ≡ faults →
      Concludes diag diag' faults faults' (ended.Refused refused) status.Refused
  unreported : (refused : Refused) → TakesPrefix diag diag' (refusal_text refused) →
      HasRisen faults faults' →
      Concludes diag diag' faults faults' (ended.Refused refused) status.SinkFailed
  wanting_word : (refused : Refused) → TakesPrefix diag diag' (refusal_text refused) →
      faults' ≡ faults →
      Concludes diag diag' faults faults' (ended.Refused refused) status.NoMemory
