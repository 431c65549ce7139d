use Rattle.std.proofs.Common.{ap, refl, ◌∙◌}
use Rattle.hc_origin.specs.Replies.{Unsent}
use Rattle.hc_origin.proofs.Sends.{sends-all, sends-none, sends-some}
use Rattle.hc_origin.proofs.reply.Reply.send.Goals as goal

pub loop-self-init : goal.loop-self-init
loop-self-init g c = (sends-none (g.W.Wire.log c.args.wire.now) c.args.self.now.k c.args.self.now.bytes, refl, (λ j. refl), refl)

pub returns-then-n-len-clause-offers : goal.returns-then-n-len-clause-offers
returns-then-n-len-clause-offers g c =
    sends-some (g.W.Wire.log c.args.wire.now) (g.W.Wire.log c.loop-self.wire) (g.W.Wire.log c.send.new.self) c.args.self.now.k c.self.inside.k c.in_ok-n.n
    c.args.self.now.bytes c.loop-self.self.bytes c.piece-piece.result.now c.skip.new.self.bytes c.loop-self.invariant.0
    (ap (λ (u : Unsent). u.k) c.self.view_is ∙ c.loop-self.invariant.1) c.piece-piece.ensures c.if-n-len.true c.skip.ensures.bytes c.in_ok-n.ensures.ok

pub loop-self-preserved : goal.loop-self-preserved
loop-self-preserved g c = (
  sends-all (g.W.Wire.log c.args.wire.now) (g.W.Wire.log c.loop-self.wire) (g.W.Wire.log c.send.new.self) c.args.self.now.k c.self.inside.k c.in_ok-n.n
      c.args.self.now.bytes c.loop-self.self.bytes c.piece-piece.result.now c.skip.new.self.bytes c.loop-self.invariant.0
      (ap (λ (u : Unsent). u.k) c.self.view_is ∙ c.loop-self.invariant.1) c.piece-piece.ensures c.in_ok-n.ensures.within
      c.if-n-len.false c.skip.ensures.bytes c.in_ok-n.ensures.ok,
  c.skip.ensures.number ∙ c.loop-self.invariant.1,
  (λ j. c.send.ensures.stages j ∙ c.loop-self.invariant.2 j),
  c.in_ok-n.ensures.cause.calm ∙ c.loop-self.invariant.3,
)
