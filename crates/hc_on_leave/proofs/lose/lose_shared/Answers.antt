use Rattle.std.{proofs.Common.{ℕ, List, ap, ◌∙◌, subst}, specs.Prelude.{is_some}}
use Rattle.hc_effects.proofs.Vocabulary.{cause}
use Rattle.hc_text.specs.Sorted.{itself, has}
use Rattle.hc_state.specs.DetachedReaders.{ChangesEach, after_parting}
use Rattle.hc_on_leave.proofs.LoseDetachedReaders.{loses_shared}
use Rattle.hc_on_leave.proofs.lose.lose_shared.Goals as goal

pub lose_shared-survivor-requires : goal.lose_shared-survivor-requires
lose_shared-survivor-requires g c = ap (λ o. is_some o) (c.report_offsets.ensures.stays.kept c.args.r) ∙ c.requires.there

pub returns-clause-lost : goal.returns-clause-lost
returns-clause-lost g c = λ limits t v may stands.
    let lost = c.lose_shared-survivor in
    loses_shared c.args.rows.now _ c.report_offsets.new.entries lost.new.self c.part.new.consumers t c.args.now c.args.r c.args.x v lost.result may stands
    c.requires.there
    c.report_offsets.ensures.stays c.report_offsets.ensures.reported lost.ensures.group lost.ensures.survivor lost.ensures.changed
    (subst (λ (cs : List ℕ). ChangesEach c.args.rows.now.consumers c.part.new.consumers (λ d. has itself d cs)
    (after_parting lost.result c.args.x (cause.StoreWrite c.args.r))) c.bound.ensures c.part.ensures) c.let_go.ensures.stands
