use Rattle.std.proofs.Common.{◌≡◌, ◌⊎◌, inl, Some, sym, ◌∙◌, subst}
use Rattle.hc_effects.proofs.Vocabulary.{act_list, promised_bytes, cause}
use Rattle.hc_stored.specs.Entries.{shelf_of}
use Rattle.hc_effects.proofs.StopFrames.{end_of}
use Rattle.hc_state.specs.Stopped.{BrokeOff}
use Rattle.hc_on_body.proofs.{OpenViews.{viewed, is_broken}, ShortAnswers.{short_answered}}
use Rattle.hc_on_body.proofs.stop.end.Goals as goal

pub returns-in-Some-clause-answers : goal.returns-in-Some-clause-answers
returns-in-Some-clause-answers g c = λ limits t facts stands accepts.
    let r = c.args.rows.now in
    let x = c.args.x in
    let view = c.unwrap-view.result in
    let p = c.in-Some.promised in
    let seen = viewed r t x c.view.result view stands c.view.ensures c.unwrap-view.ensures in
    let promises : promised_bytes seen.w ≡ Some p = sym seen.promised_is ∙ c.in-Some.is in
    let broken = is_broken r t stands facts.law x view seen (inl (seen.headed ∙ (end_of t x seen.w seen.row accepts).headed)) in
    short_answered limits (shelf_of r.entries).faults _ t facts c.args.now x seen.w broken p promises accepts (act_list c.args.out.now)
    (act_list c.break_off.new.out)
    (subst (λ n. BrokeOff limits (shelf_of r.entries).faults c.break_off.new.rows t (act_list c.args.out.now) (act_list c.break_off.new.out) c.args.now x
    seen.w (cause.Short x n p)) seen.delivered (c.break_off.ensures.broken _ t seen.w facts stands broken))

pub returns-in-None-clause-answers : goal.returns-in-None-clause-answers
returns-in-None-clause-answers g c = λ limits t facts stands accepts.
    let seen = viewed c.args.rows.now t c.args.x c.view.result c.unwrap-view.result stands c.view.ensures c.unwrap-view.ensures in
    c.end_whole.ensures.answers _ t facts stands accepts (record { w = seen.w; row = seen.row; unreported = sym seen.promised_is ∙ c.in-None.is })
