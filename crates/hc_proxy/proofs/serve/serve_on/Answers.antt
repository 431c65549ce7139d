use Rattle.std.proofs.Common.{refl}
use Rattle.hc_effects.proofs.Vocabulary.{no_contents}
use Rattle.hc_proxy.proofs.serve.serve_on.Goals as goal

pub serve_from-requires-clause-stocked : goal.serve_from-requires-clause-stocked
serve_from-requires-clause-stocked g c = ∣ (no_contents, record { stands = c.requires.new; last_is = refl }) ∣₁

pub returns-clause-serves : goal.returns-clause-serves
returns-clause-serves g c = λ none. c.serve_from.ensures.serves none no_contents (record { stands = c.requires.new; last_is = refl })

pub returns-clause-recorded : goal.returns-clause-recorded
returns-clause-recorded g c = c.serve_from.ensures.recorded no_contents (record { stands = c.requires.new; last_is = refl })
