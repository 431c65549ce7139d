use Rattle.std.proofs.Common.{refl}
use Rattle.hc_state.proofs.Losing.{may_lost, stands_lost}
use Rattle.hc_on_leave.proofs.seal.lose_to.Goals as goal

pub returns-clause-lost : goal.returns-clause-lost
returns-clause-lost g c = λ limits t v may row nobody nothing stands.
    c.let_go.ensures.stands _ _ (may_lost t c.args.r v c.args.alone row may)
    (stands_lost c.args.rows.now _ t c.args.r v c.args.alone row stands nobody nothing refl refl refl refl c.lose.ensures.changed c.requires.there)
