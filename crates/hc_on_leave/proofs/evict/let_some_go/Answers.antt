use Rattle.std.proofs.Common.{ℕ, Option, sym, subst}
use Rattle.hc_effects.proofs.Vocabulary.{let_some_go}
use Rattle.hc_state.specs.Stands.{RowsStand}
use Rattle.hc_on_leave.proofs.evict.let_some_go.Goals as goal

pub returns-in-Some-clause-stands : goal.returns-in-Some-clause-stands
returns-in-Some-clause-stands g c = λ limits t may stands.
    subst (λ (o : Option ℕ). RowsStand limits c.let_go.new.rows (let_some_go c.args.now o t)) (sym c.in-Some.is) (c.let_go.ensures.stands limits t may stands)
