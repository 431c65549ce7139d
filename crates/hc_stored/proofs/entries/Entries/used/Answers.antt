use Rattle.std.proofs.Common.{◌∙◌}
use Rattle.hc_stored.proofs.WeightLemmas.{weight-kept}
use Rattle.hc_stored.proofs.entries.Entries.used.Goals as goal

pub returns-clause-sum : goal.returns-clause-sum
returns-clause-sum g c = λ rs lists. c.used.ensures ∙ weight-kept c.args.self.now.shelved rs lists.distinct lists.all
