use Rattle.std.proofs.Common.{refl}
use Rattle.hc_model.specs.Entries.{no_contents}
use Rattle.hc_keep_app.proofs.proxy.pass_on.Goals as goal

pub serve_from-requires-clause-stocked : goal.serve_from-requires-clause-stocked
serve_from-requires-clause-stocked c = ∣ (no_contents, record { stands = c.requires.new; last_is = refl }) ∣₁
