use Rattle.std.proofs.Common.{◌≡◌, true, false, refl, sym, ◌∙◌}
use Rattle.hc_piecewise.proofs.Pieces.{no_refusal, some_refusal}
use Rattle.hc_handle.proofs.TextPieces.{idle_after, keeps_some, read_wholly, read_to_refusal}
use Rattle.hc_handle.proofs.session.Session.read_on.Goals as goal

pub invariant_of-self : goal.invariant_of-self
invariant_of-self c =
    let after = c.go_on.new.on in
    let idle = idle_after c.args.self.now c.take_schedule-schedule.new.self after c.take_schedule-schedule.result c.go_on.new.self c.args.text.now
    c.take_schedule-schedule.ensures.taken c.in_default-go_on.ensures.stepped in
    record {
      tied = after.tied;
      silent = after.silent;
      unreported = after.unreported;
      no_text = λ on. absurd (let no : true ≡ false = sym on ∙ idle.ready in cc);
      early = after.early;
      goes_on = keeps_some c.go_on.new.self _ _ _ after.spent c.in_default-go_on.ensures.may;
    }

pub returns-then-is_refused : goal.returns-then-is_refused
returns-then-is_refused c =
    let found = some_refusal c.refusal.result (sym c.is_some-is_refused.ensures ∙ c.if-is_refused.true) in
    read_to_refusal c.args.self.now c.take_schedule-schedule.new.self c.go_on.new.on c.take_schedule-schedule.result c.go_on.new.self c.args.text.now
    c.take_schedule-schedule.ensures.taken c.in_default-go_on.ensures.stepped _ refl refl refl refl refl found.0
    (sym c.text_refusal.ensures.value ∙ c.in_default.is) (sym c.refusal.ensures ∙ found.1)

pub returns : goal.returns
returns c =
    let free = no_refusal c.refusal.result (sym c.is_some-is_refused.ensures ∙ c.if-is_refused.false) in
    read_wholly c.args.self.now c.take_schedule-schedule.new.self c.go_on.new.on c.take_schedule-schedule.result c.go_on.new.self c.args.text.now
    c.take_schedule-schedule.ensures.taken c.in_default-go_on.ensures.stepped _ refl refl refl refl refl _ _ _
    (sym c.text_refusal.ensures.value ∙ c.in_default.is) (sym c.refusal.ensures ∙ free) c.in_default-go_on.ensures.may
