use Rattle.std.proofs.Common.{refl}
use Rattle.hc_fetch.proofs.Going.{new_stands}
use Rattle.hc_fetch.proofs.fetching.Fetching.new.Goals as goal

pub returns-clause-stands : goal.returns-clause-stands
returns-clause-stands g c = λ never. new_stands _ never c.requires.new c.new.ensures.keeps c.new.ensures.none refl refl refl refl
