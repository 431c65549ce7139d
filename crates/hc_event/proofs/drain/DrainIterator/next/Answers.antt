use Rattle.std.proofs.Common.{refl}
use Rattle.hc_event.specs.Acts.{act_list}
use Rattle.hc_event.proofs.Draining.{last_first}
use Rattle.hc_event.proofs.drain.DrainIterator.next.Goals as goal

pub returns-clause-steps : goal.returns-clause-steps
returns-clause-steps c =
    (last_first (act_list c.args.self.now.acts.now) (act_list c.pop.new.self) c.pop.result c.pop.ensures.acts c.pop.ensures.none, (refl, c.pop.ensures.room))
