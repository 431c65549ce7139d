use Rattle.hc_front.specs.FrontHistories.{fronted}
use Rattle.hc_front.proofs.front.Front.new.Goals as goal

pub returns-clause-stands : goal.returns-clause-stands
unfolding fronted
returns-clause-stands g c = λ contents stands. record { cache = stands; watched = λ d. c.new.ensures d }
