use Rattle.std.proofs.Common.{refl}
use Rattle.hc_model.specs.Entries.{no_contents}
use Rattle.hc_test_proxy.proofs.trial.begin.Goals as goal

pub serve_from-requires-clause-stocked : goal.serve_from-requires-clause-stocked
serve_from-requires-clause-stocked c = ∣ (no_contents, record { stands = c.requires.new; last_is = refl }) ∣₁
