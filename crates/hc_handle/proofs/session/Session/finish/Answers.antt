use Rattle.std.proofs.Common.{◌≡◌, true, false, refl, sym, ◌∙◌}
use Rattle.hc_core.specs.Steps.{last_moment, steps, bytes_received}
use Rattle.hc_piecewise.proofs.Pieces.{some_refusal}
use Rattle.hc_handle.proofs.TextPieces.{may_some, keeps_some, ready_before, end_refused}
use Rattle.hc_handle.proofs.session.Session.finish.Goals as goal

pub finish-requires : goal.finish-requires
finish-requires c =
    let s = c.args.self.now in
    let ready = ready_before s 0 (sym c.text_refusal.ensures.value ∙ c.in_default.is) in
    record {
      may = (
        last_moment s.cache,
        steps s.cache,
        bytes_received s.cache,
        may_some s.schedule c.in-Some-take.schedule _ _ _ s.spent (sym c.take.ensures.value ∙ c.in-Some-take.is) ready s.goes_on,
      );
    }

pub invariant_of-self-2 : goal.invariant_of-self-2
invariant_of-self-2 c =
    let s = c.args.self.now in
    let ready = ready_before s 0 (sym c.text_refusal.ensures.value ∙ c.in_default.is) in
    let may = may_some s.schedule c.in-Some-take.schedule _ _ _ s.spent (sym c.take.ensures.value ∙ c.in-Some-take.is) ready s.goes_on in
    record {
      tied = s.tied;
      silent = s.silent;
      unreported = s.unreported;
      no_text = λ on. absurd (let no : true ≡ false = sym on ∙ ready in cc);
      early = s.early;
      goes_on = keeps_some c.finish.new.self _ _ _ s.spent (c.finish.ensures.may _ _ _ may);
    }

pub returns-then-is_refused : goal.returns-then-is_refused
returns-then-is_refused c =
    let found = some_refusal c.finish.result (sym c.is_some-is_refused.ensures ∙ c.if-is_refused.true) in
    end_refused c.args.self.now _ c.in-Some-take.schedule c.finish.new.self (sym c.take.ensures.value ∙ c.in-Some-take.is) refl refl refl refl refl
    c.finish.ensures.progress c.finish.ensures.entries c.finish.ensures.report c.finish.ensures.given found.0
    (sym c.text_refusal.ensures.value ∙ c.in_default.is) (sym c.finish.ensures.value ∙ found.1) (c.finish.ensures.refusal ∙ found.1)
