use Rattle.hc_rules.proofs.DenialLaws.{denials-least}
use Rattle.hc_rules.proofs.laws.denials_are_least.Goals as goal

pub returns : goal.returns
returns c = denials-least
