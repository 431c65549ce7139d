use Rattle.std.proofs.Common.{refl, ap, ◌∙◌}
use Rattle.hc_store.specs.Slots.{weight}
use Rattle.hc_store.proofs.Weights.{weight-none}
use Rattle.hc_stored.proofs.entries.Entries.over.Goals as goal

pub returns-clause-used : goal.returns-clause-used
returns-clause-used g c = ap weight c.requires.empty ∙ weight-none _ (λ m. refl)
