use Rattle.std.proofs.Common.{refl}
use Rattle.hc_effects.proofs.Vocabulary.{act_list}
use Rattle.hc_fetch.proofs.Starting.{step_on}
use Rattle.hc_fetch.proofs.fetching.Fetching.step.Goals as goal

pub returns : goal.returns
returns g c =
    let step = c.in_ok-step.ensures in
    step_on c.args.self.now c.begin.new.self _ c.args.now c.args.event.now (act_list c.clear.new.self) (act_list c.step.new.out) c.in_ok-begin.ensures
    c.clear.ensures.acts step.answered step.moment step.received
    (record { plan = refl; moment = refl; count = refl; first = refl; ended = refl; gathered = refl; decided = refl; limits = step.answered.answered.limits })
