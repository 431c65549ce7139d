use Rattle.std.proofs.Common.{refl}
use Rattle.hc_origin.proofs.{Maps.{map-other, map-own}, Steps.{follows-closed, left-kept}}
use Rattle.hc_wire.specs.Logs.{with_closed}
use Rattle.hc_origin.proofs.origin.Origin.close.Goals as goal

pub returns-clause-goes : goal.returns-clause-goes
returns-clause-goes g c = λ reports log follows leaves. record {
  next = with_closed c.args.k log;
  follows = follows-closed reports _ _ _ _ log follows c.args.k c.close.ensures.log c.close.ensures.stages;
  calls = refl;
  bound = refl;
  holds = left-kept c.args.k log _ _ _ leaves
      (map-own c.args.self.now.asking c.remove.new.self c.args.k _ c.remove.ensures.updates)
      (map-other c.args.self.now.asking c.remove.new.self c.args.k _ c.remove.ensures.updates);
}
