use Rattle.std.{proofs.Common.{◌≡◌, ◌⊎◌, inl, inr, nat_eq, true, false, sym, ◌∙◌}, specs.{Prelude.{is_some}, HashMap.{get}}}
use Rattle.hc_text.proofs.Basics.{false_true}
use Rattle.hc_effects.proofs.Vocabulary.{act_list}
use Rattle.hc_stored.specs.Entries.{shelf_of}
use Rattle.hc_state.specs.Stops.{is_shown}
use Rattle.hc_state.proofs.Maps.{merely_true}
use Rattle.hc_on_body.proofs.{OpenViews.{viewed, waiter_lives, is_broken, waited}, StopAnswers.{fault_answered, wait_answered}, stop.fault.Goals.{then-view, else-view}}
use Rattle.hc_on_body.proofs.stop.fault.Goals as goal

pub break_wait-requires-clause-may : goal.break_wait-requires-clause-may
break_wait-requires-clause-may g c =
    let r = c.args.rows.now in
    let view = c.unwrap-view.result in
    let headless : view.headed ≡ false = elim c.if-view.branch [
      | then-view w ↦ false_true (sym c.if-was_shown.false ∙ (w.value-is ∙ w.if-view.true))
      | else-view w ↦ w.if-view.false
    ] in
    record {
      stands = c.requires.stands;
      live = merely_true (is_some (get nat_eq r.consumers view.c)) c.requires.stands (λ s.
          waiter_lives r s.t s.rows s.facts.law c.args.x view
          (viewed r s.t c.args.x c.view.result view s.rows c.view.ensures c.unwrap-view.ensures) headless);
    }

pub returns-then-was_shown-clause-answers : goal.returns-then-was_shown-clause-answers
returns-then-was_shown-clause-answers g c = λ limits t facts stands accepts.
    let r = c.args.rows.now in
    let x = c.args.x in
    let view = c.unwrap-view.result in
    let why : (view.headed ≡ true) ⊎ (is_shown (get nat_eq r.consumers view.c) ≡ true) = elim c.if-view.branch [
      | then-view w ↦ inl w.if-view.true
      | else-view w ↦ inr (sym w.was_shown.ensures ∙ (sym w.value-is ∙ c.if-was_shown.true))
    ] in
    let seen = viewed r t x c.view.result view stands c.view.ensures c.unwrap-view.ensures in
    let broken = is_broken r t stands facts.law x view seen why in
    fault_answered limits (shelf_of r.entries).faults _ t facts.law c.args.now x seen.w broken accepts (act_list c.args.out.now) _
    (c.break_off.ensures.broken _ t seen.w facts stands broken)

pub returns-else-was_shown-clause-answers : goal.returns-else-was_shown-clause-answers
returns-else-was_shown-clause-answers g c = λ limits t facts stands accepts.
    let r = c.args.rows.now in
    let x = c.args.x in
    let view = c.unwrap-view.result in
    let headless : view.headed ≡ false = elim c.if-view.branch [
      | then-view w ↦ false_true (sym c.if-was_shown.false ∙ (w.value-is ∙ w.if-view.true))
      | else-view w ↦ w.if-view.false
    ] in
    let unshown : is_shown (get nat_eq r.consumers view.c) ≡ false = elim c.if-view.branch [
      | then-view w ↦ false_true (sym c.if-was_shown.false ∙ (w.value-is ∙ w.if-view.true))
      | else-view w ↦ sym w.was_shown.ensures ∙ (sym w.value-is ∙ c.if-was_shown.false)
    ] in
    let seen = viewed r t x c.view.result view stands c.view.ensures c.unwrap-view.ensures in
    let waits = waited r t stands facts.law x view seen headless unshown in
    wait_answered limits (shelf_of r.entries).faults _ t facts.law c.args.now x view.c seen.w waits.0 (act_list c.args.out.now) waits.1 accepts
    (c.break_wait.ensures.broken _ t seen.w waits.0 facts stands waits.1)
