use Rattle.std.proofs.Common.{◌∙◌}
use Rattle.hc_core.proofs.KeyViews.{turn_reported}
use Rattle.hc_core.proofs.cache.Cache.turn_of.Goals as goal

pub returns : goal.returns
returns g c = λ contents h stands. c.turn.ensures ∙ turn_reported c.args.self.now c.args.key.now contents h stands
