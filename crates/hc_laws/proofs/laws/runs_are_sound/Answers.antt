-- Every run is sound.
use Rattle.hc_laws.proofs.SoundRuns as runs
use Rattle.hc_laws.proofs.laws.runs_are_sound.Goals as goal

pub returns-clause-sound : goal.returns-clause-sound
returns-clause-sound c = runs.runs_are_sound

pub returns-clause-owned : goal.returns-clause-owned
returns-clause-owned c = runs.owners_in_runs

pub returns-clause-measured : goal.returns-clause-measured
returns-clause-measured c = runs.measures_in_runs
