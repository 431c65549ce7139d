use Rattle.std.proofs.Common.{Some, ap, ◌∙◌}
use Rattle.hc_msg.specs.Reading.{Reading}
use Rattle.hc_origin.proofs.{Maps.{map-other, map-own}, Steps.{accepted-kept}}
use Rattle.hc_origin.proofs.origin.Origin.accept.Goals as goal

pub returns : goal.returns
returns c = λ log welcomes.
    accepted-kept c.args.k log _ _ _ welcomes
    (map-own c.args.self.now.asking c.insert.new.self c.args.k _ c.in_ok-insert.ensures.updates ∙ ap (λ (r : Reading). Some r) c.new.ensures)
    (map-other c.args.self.now.asking c.insert.new.self c.args.k _ c.in_ok-insert.ensures.updates)
