use Rattle.std.proofs.Common.{ap, ◌∙◌}
use Rattle.hc_origin.specs.{Replies.{Unsent}, Going.{nobody}}
use Rattle.hc_origin.proofs.{Ends.{pops-one}, Turning.{goes-on}}
use Rattle.hc_origin.proofs.origin.Origin.close_answering.Goals as goal

pub loop-reply-preserved : goal.loop-reply-preserved
loop-reply-preserved g c = (
  (λ reports log follows ending. goes-on reports log (g.W.Wire.log c.loop-reply.wire) (g.W.Wire.log c.close.new.self) (g.W.Wire.stages c.loop-reply.wire)
      (g.W.Wire.stages c.close.new.self) _ _
      (c.loop-reply.invariant.0 reports log follows ending)
      (λ l f is. pops-one reports (g.W.Wire.log c.loop-reply.wire) (g.W.Wire.log c.close.new.self) (g.W.Wire.stages c.loop-reply.wire)
      (g.W.Wire.stages c.close.new.self) l c.reply.inside.k nobody
      c.loop-reply.self.answering.items c.pop.new.self.items c.in-Some.reply c.in-Some.ensures.items (ap (λ (u : Unsent). u.k) c.reply.view_is) f is
      c.close.ensures.log c.close.ensures.stages)),
  c.close.ensures.faults ∙ c.loop-reply.invariant.1,
)
