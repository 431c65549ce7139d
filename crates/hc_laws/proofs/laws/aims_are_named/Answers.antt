-- Who asks about what is stored names it.
use Rattle.hc_laws.proofs.AimRuns.{aims_in_runs, case_without_aim}
use Rattle.hc_laws.proofs.laws.aims_are_named.Goals as goal

pub returns-clause-named : goal.returns-clause-named
returns-clause-named c = aims_in_runs

pub returns-clause-cases : goal.returns-clause-cases
returns-clause-cases c = case_without_aim
