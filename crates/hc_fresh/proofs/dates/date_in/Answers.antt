use Rattle.std.{proofs.Common.{◌≡◌, ◌≤◌, ◌∙◌, List, ℕ, length, subst}, specs.Prelude.{Some}}
use Rattle.hc_fresh.proofs.DateTexts.{length-date}
use Rattle.hc_fresh.proofs.dates.date_in.Goals as goal

pub returns-in-Ok-clause-short : goal.returns-in-Ok-clause-short
returns-in-Ok-clause-short c = λ x e.
    let first : Some c.in_ok-text.text.now ≡ Some x = c.in_ok-text.ensures ∙ e in
    let same : c.in_ok-text.text.now ≡ x = cc in
    subst (λ (t : List ℕ). length t ≤ 33) same (length-date c.in_ok-text.text.now c.in-Ok.date c.in-Ok.ensures.shown)
