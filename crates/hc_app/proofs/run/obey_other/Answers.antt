use Rattle.std.proofs.Common.{refl, subst, inl}
use Rattle.hc_app.specs.{Commands.{IsCommand}, Program.{obeyed, answered, served, reported}}
use Rattle.hc_app.specs.declared.status.Status.TheVariants as status
use Rattle.hc_app.proofs.{Done.{usage_said, usage_unsaid}, Failed.{all_calm, stopped_status, stopped_wireless, wire_still}}
use Rattle.hc_app.proofs.run.obey_other.Goals as goal

pub returns-in-Some-Replay-clause-keeps : goal.returns-in-Some-Replay-clause-keeps
returns-in-Some-Replay-clause-keeps g c =
    obeyed _ (subst (IsCommand _) c.in-Some-Replay.field-0-is c.in-Some-Replay.ensures.found) c.replay_input.ensures.does refl

pub returns-in-Some-Generate-clause-keeps : goal.returns-in-Some-Generate-clause-keeps
returns-in-Some-Generate-clause-keeps g c =
    obeyed _ (subst (IsCommand _) c.in-Some-Generate.field-0-is c.in-Some-Generate.ensures.found) (c.write_summary.ensures.does _) refl

pub returns-in-Ok-clause-keeps : goal.returns-in-Ok-clause-keeps
returns-in-Ok-clause-keeps g c = reported c.in-None.ensures.none c.requires.other (usage_said _ _ _ _ _ _ _ c.in-Ok.ensures.said) refl

pub returns-in-Err-clause-keeps : goal.returns-in-Err-clause-keeps
returns-in-Err-clause-keeps g c =
    rw c.stopped.ensures (reported c.in-None.ensures.none c.requires.other
    (usage_unsaid _ _ _ _ _ _ _ _ c.say_usage.ensures.front c.in-Err.ensures.cause.failed) refl)

pub returns-in-Some-Origin-clause-keeps : goal.returns-in-Some-Origin-clause-keeps
returns-in-Some-Origin-clause-keeps g c =
    answered _ _ (subst (IsCommand _) c.in-Some-Origin.field-0-is c.in-Some-Origin.ensures.found) c.answer.ensures.answers refl

pub returns-in-Some-Serve-clause-keeps : goal.returns-in-Some-Serve-clause-keeps
returns-in-Some-Serve-clause-keeps g c =
    served _ _ _ (subst (IsCommand _) c.in-Some-Serve.field-0-is c.in-Some-Serve.ensures.found) c.serve.ensures.serves
    (record { unread = refl; unsaid = refl; sound = refl })

pub returns-in-Some-Save-clause-keeps : goal.returns-in-Some-Save-clause-keeps
returns-in-Some-Save-clause-keeps g c = obeyed _ (subst (IsCommand _) c.in-Some-Save.field-0-is c.in-Some-Save.ensures.found) c.save_input.ensures.does refl

pub returns-in-Some-Open-clause-keeps : goal.returns-in-Some-Open-clause-keeps
returns-in-Some-Open-clause-keeps g c = obeyed _ (subst (IsCommand _) c.in-Some-Open.field-0-is c.in-Some-Open.ensures.found) c.open_input.ensures.does refl

pub returns-in-Some-Conditional-clause-keeps : goal.returns-in-Some-Conditional-clause-keeps
returns-in-Some-Conditional-clause-keeps g c =
    obeyed _ (subst (IsCommand _) c.in-Some-Conditional.field-0-is c.in-Some-Conditional.ensures.found) c.front_input.ensures.does refl

pub returns-in-Some-Replay-clause-wire_faults : goal.returns-in-Some-Replay-clause-wire_faults
returns-in-Some-Replay-clause-wire_faults g c = wire_still _ _ c.replay_input.ensures.wireless

pub returns-in-Some-Generate-clause-wire_faults : goal.returns-in-Some-Generate-clause-wire_faults
returns-in-Some-Generate-clause-wire_faults g c = wire_still _ _ c.write_summary.ensures.wireless

pub returns-in-Some-Save-clause-wire_faults : goal.returns-in-Some-Save-clause-wire_faults
returns-in-Some-Save-clause-wire_faults g c = wire_still _ _ c.save_input.ensures.wireless

pub returns-in-Some-Open-clause-wire_faults : goal.returns-in-Some-Open-clause-wire_faults
returns-in-Some-Open-clause-wire_faults g c = wire_still _ _ c.open_input.ensures.wireless

pub returns-in-Some-Conditional-clause-wire_faults : goal.returns-in-Some-Conditional-clause-wire_faults
returns-in-Some-Conditional-clause-wire_faults g c = wire_still _ _ c.front_input.ensures.wireless

pub returns-in-Some-Generate-clause-stream_faults : goal.returns-in-Some-Generate-clause-stream_faults
returns-in-Some-Generate-clause-stream_faults g c = c.write_summary.ensures.stream_faults _

pub returns-in-Some-Origin-clause-stream_faults : goal.returns-in-Some-Origin-clause-stream_faults
returns-in-Some-Origin-clause-stream_faults g c = all_calm _ _ _ _ _ _ _ c.answer.ensures.unread c.answer.ensures.unwritten refl refl refl

pub returns-in-Some-Serve-clause-stream_faults : goal.returns-in-Some-Serve-clause-stream_faults
returns-in-Some-Serve-clause-stream_faults g c = record {
  source_failed = λ is. absurd (c.serve.ensures.unread is);
  source_calm = λ off. refl;
  sink_failed = λ is. inl (c.serve.ensures.sink_failed is);
  sinks_calm = λ off. (c.serve.ensures.sink_calm off, refl);
}

pub returns-in-Ok-clause-stream_faults : goal.returns-in-Ok-clause-stream_faults
returns-in-Ok-clause-stream_faults g c = all_calm _ _ _ _ _ _ status.Usage (λ is. cc) (λ is. cc) refl refl c.in-Ok.ensures.calm

pub returns-in-Ok-clause-wire_faults : goal.returns-in-Ok-clause-wire_faults
returns-in-Ok-clause-wire_faults g c = wire_still _ status.Usage (λ is. cc)

pub returns-in-Err-clause-stream_faults : goal.returns-in-Err-clause-stream_faults
returns-in-Err-clause-stream_faults g c = rw c.stopped.ensures (stopped_status _ _ _ _ _ c.in-Err.ensures.cause.failed c.in-Err.ensures.no_fault)

pub returns-in-Err-clause-wire_faults : goal.returns-in-Err-clause-wire_faults
returns-in-Err-clause-wire_faults g c = rw c.stopped.ensures (wire_still _ _ (stopped_wireless _))
