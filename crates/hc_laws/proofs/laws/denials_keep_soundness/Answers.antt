-- A denied entry changes nothing that soundness speaks of.
use Rattle.hc_laws.proofs.DeniedKeeps.{denied_sound, denied_owners, denied_measures}
use Rattle.hc_laws.proofs.laws.denials_keep_soundness.Goals as goal

pub returns-clause-sound : goal.returns-clause-sound
returns-clause-sound c = denied_sound

pub returns-clause-owned : goal.returns-clause-owned
returns-clause-owned c = denied_owners

pub returns-clause-measured : goal.returns-clause-measured
returns-clause-measured c = denied_measures
