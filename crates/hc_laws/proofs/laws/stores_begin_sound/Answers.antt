use Rattle.hc_laws.proofs.{Begins.{begun_sound}, Starts.{starts}}
use Rattle.hc_laws.proofs.laws.stores_begin_sound.Goals as goal

pub returns-clause-sound : goal.returns-clause-sound
returns-clause-sound c = begun_sound

pub returns-clause-starts : goal.returns-clause-starts
returns-clause-starts c = starts
