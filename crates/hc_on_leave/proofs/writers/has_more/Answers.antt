use Rattle.std.{proofs.Common.{ℕ, ap, sym, ◌∙◌, subst}, specs.Prelude.{is_some, ◌↔◌, IsTrue}}
use Rattle.hc_sparse.specs.Cells.{Covers}
use Rattle.hc_stored.specs.{Entries.{shelf_of}, Shelf.{cells_at}}
use Rattle.hc_on_leave.proofs.WriterTies.{more_own, more_none, more_ahead}
use Rattle.hc_on_leave.proofs.writers.has_more.Goals as goal

pub returns-then-is_some : goal.returns-then-is_some
returns-then-is_some g c = λ limits t v p facts stands kept here stays.
    more_own c.args.rows.now t stands c.args.consumer.now v kept p
    (ap (λ o. is_some o) (sym c.if_running.ensures) ∙ (sym c.is_some.ensures ∙ c.if-is_some.true))

pub returns-in-Some : goal.returns-in-Some
returns-in-Some g c = λ limits t v p facts stands kept here stays.
    more_ahead c.args.rows.now t stands c.args.consumer.now v kept p facts c.args.r here stays c.requires.there
    (ap (λ o. is_some o) (sym c.if_running.ensures) ∙ (sym c.is_some.ensures ∙ c.if-is_some.false)) c.in-Some.hi c.in-Some.is c.covers.result
    (subst (λ (n : ℕ). IsTrue c.covers.result ↔ Covers (cells_at (shelf_of c.args.rows.now.entries) c.args.r) n c.in-Some.hi) c.offset.ensures c.covers.ensures)

pub returns-in-None : goal.returns-in-None
returns-in-None g c = λ limits t v p facts stands kept here stays.
    more_none c.args.rows.now t stands c.args.consumer.now v kept p
    (ap (λ o. is_some o) (sym c.if_running.ensures) ∙ (sym c.is_some.ensures ∙ c.if-is_some.false)) c.in-None.is
