use Rattle.std.proofs.{Common.{◌≡◌, true, subst}, lemmas.Result.{IfOk-weaker}}
use Rattle.hc_contents.specs.PlainContents.{plain_contents}
use Rattle.hc_effects.proofs.Vocabulary.{Limits, may_begin}
use Rattle.hc_saving.proofs.Recovered.{left_behind}
use Rattle.hc_saving.proofs.leaving.contents_left.Goals as goal

pub returns-clause-left : goal.returns-clause-left
returns-clause-left c = IfOk-weaker c.kept_contents.result _ _ (λ found reported contents h stands.
    let q = c.in_ok-leave_all.ensures.left contents h stands in
    left_behind c.args.cache c.leave_all.new.cache contents h q c.in_ok-leave_all.ensures.limits c.in_ok-leave_all.ensures.nobody c.in_ok-leave_all.ensures.few
    (plain_contents found) (reported contents q.left q.stands)) c.kept_contents.ensures.reported

pub returns-clause-fits : goal.returns-clause-fits
returns-clause-fits c = IfOk-weaker c.kept_contents.result _ _ (λ found fits few.
    subst (λ (l : Limits). may_begin l (plain_contents found) ≡ true) c.in_ok-leave_all.ensures.limits (fits few)) c.kept_contents.ensures.fits
