-- Readers are served, and exchanges are had.
use Rattle.hc_model.specs.Laws.{AreServed, AreHad}
use Rattle.hc_laws.proofs.HadHeaded.{had_kept}
use Rattle.hc_effects.proofs.{OfEntries.{of_entries}, ServedKeeps.{served_kept}, Step.{step_of}}
use Rattle.hc_laws.proofs.laws.readers_are_served.Goals as goal

pub returns-clause-served : goal.returns-clause-served
returns-clause-served c = of_entries AreServed (λ limits t now flaw s o m ev goes real. served_kept (step_of limits t now flaw s o ev goes) m real)

pub returns-clause-had : goal.returns-clause-had
returns-clause-had c = of_entries AreHad (λ limits t now flaw s o m ev goes real. had_kept (step_of limits t now flaw s o ev goes) m real)
