use Rattle.std.proofs.Common.{List, ◌++◌, ◌∷◌, [], true, false, ap, subst, sym}
use Rattle.hc_origin.specs.{Going.{AreOffered, GoesTo, asking_in}, Replies.{Unsent}}
use Rattle.hc_origin.proofs.{Offers.{offers-closed, offers-log, offers-some}, Turning.{offers-false, offers-true, stops-offer}}
use Rattle.hc_origin.proofs.origin.Origin.offer.Goals as goal

pub returns-in_err-send-clause-offers : goal.returns-in_err-send-clause-offers
returns-in_err-send-clause-offers g c = λ reports log follows keeps lacking.
    stops-offer reports c.args.self.now log _ _ _ c.from_residual.result c.from_residual.ensures.1
    (offers-log reports (g.W.Wire.log c.args.wire.now) (g.W.Wire.log c.send.new.wire) (g.W.Wire.stages c.args.wire.now) (g.W.Wire.stages c.send.new.wire) log
    (asking_in c.args.self.now) c.args.self.now.answering.items c.args.self.now.offered.items c.args.reply c.send.new.self follows keeps
    c.send.ensures.number c.send.ensures.stages
    false c.in_err-send.ensures.offers)

pub returns-in_err-push-clause-offers : goal.returns-in_err-push-clause-offers
returns-in_err-push-clause-offers g c = λ reports log follows keeps lacking.
    stops-offer reports (record c.args.self.now { offered = c.push.new.self }) log _ _ _ c.from_residual-in_err-push.result
    c.from_residual-in_err-push.ensures.1
    (offers-log reports (g.W.Wire.log c.args.wire.now) (g.W.Wire.log c.send.new.wire) (g.W.Wire.stages c.args.wire.now) (g.W.Wire.stages c.send.new.wire) log
    (asking_in c.args.self.now) c.args.self.now.answering.items c.args.self.now.offered.items c.args.reply c.send.new.self follows keeps
    c.send.ensures.number c.send.ensures.stages
    true (offers-false _ _ c.args.reply c.send.new.self c.in_ok-send.field-0 c.in_ok-send.ensures.offers c.if-branch.false).0)

pub returns-then-branch-clause-offers : goal.returns-then-branch-clause-offers
returns-then-branch-clause-offers g c = λ reports log follows keeps lacking.
    let is = offers-true _ _ c.args.reply c.send.new.self c.in_ok-send.field-0 c.in_ok-send.ensures.offers c.if-branch.true in
    offers-closed reports (g.W.Wire.log c.args.wire.now) (g.W.Wire.log c.send.new.wire) (g.W.Wire.stages c.args.wire.now) (g.W.Wire.stages c.send.new.wire) log
    (asking_in c.args.self.now) c.args.self.now.answering.items c.args.self.now.offered.items c.args.reply c.send.new.self follows keeps
    c.send.ensures.number c.send.ensures.stages
    (g.W.Wire.log c.close.new.self) (g.W.Wire.stages c.close.new.self) c.reply.inside.k (ap (λ (u : Unsent). u.k) c.reply.view_is) lacking is.0 is.1
    c.close.ensures.log c.close.ensures.stages

pub returns-in_ok-push-clause-offers : goal.returns-in_ok-push-clause-offers
returns-in_ok-push-clause-offers g c = λ reports log follows keeps lacking.
    let is = offers-false _ _ c.args.reply c.send.new.self c.in_ok-send.field-0 c.in_ok-send.ensures.offers c.if-branch.false in
    let goes : GoesTo reports log (g.W.Wire.log c.send.new.wire) (g.W.Wire.stages c.send.new.wire)
    (AreOffered (asking_in c.args.self.now) c.args.self.now.answering.items (c.args.self.now.offered.items ++ c.send.new.self ∷ [])) =
    offers-some reports (g.W.Wire.log c.args.wire.now) (g.W.Wire.log c.send.new.wire) (g.W.Wire.stages c.args.wire.now) (g.W.Wire.stages c.send.new.wire) log
    (asking_in c.args.self.now) c.args.self.now.answering.items c.args.self.now.offered.items c.args.reply c.send.new.self follows keeps
    c.send.ensures.number c.send.ensures.stages
    lacking is.0 is.1 in
    subst (λ (us : List Unsent). GoesTo reports log (g.W.Wire.log c.send.new.wire) (g.W.Wire.stages c.send.new.wire)
    (AreOffered (asking_in c.args.self.now) c.args.self.now.answering.items us))
    (sym c.in_ok-push.ensures.items) goes
