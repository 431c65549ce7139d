use Rattle.std.{proofs.Common.{refl, ap, sym, ◌∙◌, subst}, specs.Prelude.{option_map}}
use Rattle.hc_exch.specs.Openings.{opened_with}
use Rattle.hc_effects.proofs.ReportedNumbers.{length_early}
use Rattle.hc_state.specs.Heads.{EndsInRange}
use Rattle.hc_on_leave.proofs.AnswerHandler.{ends_in_range, changes_as_reported, stands_answered_as}
use Rattle.hc_on_head.proofs.unstored.have_answer.Goals as goal

pub end_of-end-requires : goal.end_of-end-requires
end_of-end-requires g c = subst EndsInRange (sym c.length_of-length.ensures) (ends_in_range _ (length_early _ _ _))

pub returns-clause-stands : goal.returns-clause-stands
returns-clause-stands g c = λ limits t w v alone for_it stands.
    let r = c.args.rows.now in
    stands_answered_as r _ t c.args.heard.now c.args.heard.x c.args.heard.c c.args.response.now c.args.answer w v c.unwrap-opening.result
    c.length_of-length.result c.turn_into.new.self stands alone for_it
    c.requires.accepted (sym (ap (option_map opened_with) c.unwrap-opening.ensures) ∙ c.opening.ensures) c.length_of-length.ensures c.requires.good
    c.requires.copied refl refl refl
    c.turn_into.ensures c.head.ensures.good
    (changes_as_reported r.consumers c.take_answer.new.consumers c.args.heard.c c.args.answer c.length_of-length.result c.base.result c.end_of-end.result
    c.base.ensures c.end_of-end.ensures c.take_answer.ensures)
