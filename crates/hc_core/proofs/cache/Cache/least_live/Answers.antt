use Rattle.hc_core.proofs.LeastLive.{if_none, if_some}
use Rattle.hc_core.proofs.cache.Cache.least_live.Goals as goal

pub returns-clause-none : goal.returns-clause-none
returns-clause-none g c = if_none c.args.self.now c.loop-c.least c.loop-c.c-iterator c.in-None.ensures.steps.0 c.loop-c.invariant

pub returns-clause-least : goal.returns-clause-least
returns-clause-least g c = if_some c.args.self.now c.loop-c.least c.loop-c.c-iterator c.in-None.ensures.steps.0 c.loop-c.invariant
