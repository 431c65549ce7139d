use Rattle.std.proofs.{Common.{sym, ◌∙◌, eqb-true}, lemmas.List.{nil_from_length}}
use Rattle.hc_peers.proofs.{Sends.{offers-none, some-none}, Outcomes.{on-err}}
use Rattle.hc_peers.proofs.handed.Handed.offer.Goals as goal

pub returns-then-is_empty-clause-ok : goal.returns-then-is_empty-clause-ok
returns-then-is_empty-clause-ok g c =
    offers-none c.args.k c.args.self.now (g.W.Wire.log c.args.wire.now)
    (nil_from_length c.args.self.now (eqb-true _ _ (sym c.is_empty.ensures ∙ c.if-is_empty.true)))

pub returns-in_err-n-clause-err : goal.returns-in_err-n-clause-err
returns-in_err-n-clause-err g c =
    on-err c.from_residual.result _ (some-none c.args.k c.args.self.now (g.W.Wire.log c.args.wire.now) (g.W.Wire.log c.hand.new.self) c.in_err-n.ensures.err)
