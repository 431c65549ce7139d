use Rattle.std.proofs.Common.{◌∙◌, refl, sym}
use Rattle.hc_fetch.specs.Steps as steps
use Rattle.hc_fetch.proofs.Going.{reports_so}
use Rattle.hc_fetch.proofs.fetching.FetchingCourse.go.Goals as goal

pub returns-clause-reported : goal.returns-clause-reported
returns-clause-reported g c =
    steps.answered (sym c.is_foreign.ensures ∙ c.if-is_foreign.false)
    (reports_so c.args.self.now _ c.answer_event.new.self _ c.args.now c.args.event.now c.answer_event.new.text.items c.in_ok-self.field-0
    (record { plan = refl; cache = refl; gathered = refl; first = refl; ended = refl }) refl c.in_ok-self.ensures.answered
    (record { plan = refl; cache = refl; gathered = refl; first = refl; ended = refl }) refl refl)
