use Rattle.std.proofs.Common.{refl, ◌∙◌}
use Rattle.hc_origin.specs.Going.{asking_in}
use Rattle.hc_origin.proofs.{Ends.{closes-one, ending-nobody}, Maps.{map-empty, map-other}, Turning.{goes-on}}
use Rattle.hc_origin.proofs.origin.Origin.close_all.Goals as goal

pub loop-k-preserved-in-Some : goal.loop-k-preserved-in-Some
loop-k-preserved-in-Some g c = (
  (λ reports log follows ending. goes-on reports log (g.W.Wire.log c.loop-k.wire) (g.W.Wire.log c.close.new.self) (g.W.Wire.stages c.loop-k.wire)
      (g.W.Wire.stages c.close.new.self) _ _
      (c.loop-k.invariant.0 reports log follows ending)
      (λ l f is. closes-one reports (g.W.Wire.log c.loop-k.wire) (g.W.Wire.log c.close.new.self) (g.W.Wire.stages c.loop-k.wire)
      (g.W.Wire.stages c.close.new.self) l l c.in-Some.k
      (asking_in c.loop-k.self) (λ k. asking_in (record c.loop-k.self { asking = c.pop_first.new.self }) k) c.loop-k.self.answering.items
      c.loop-k.self.answering.items f refl refl is
      (map-other c.loop-k.self.asking c.pop_first.new.self c.in-Some.k _ c.in-Some.ensures.updates) (λ j off. refl) c.close.ensures.log
      c.close.ensures.stages)),
  c.close.ensures.faults ∙ c.loop-k.invariant.1,
)

pub returns-clause-goes : goal.returns-clause-goes
returns-clause-goes g c = λ reports log follows ending. goes-on reports log (g.W.Wire.log c.loop-k.wire) _ (g.W.Wire.stages c.loop-k.wire) _ _ _
    (c.loop-k.invariant.0 reports log follows ending)
    (λ l f is. c.close_answering.ensures.goes reports l f
    (ending-nobody l (asking_in c.loop-k.self) c.loop-k.self.answering.items is
    (map-empty c.loop-k.self.asking (λ lt. let never = c.in_default.ensures.variant.1 lt in cc))))
