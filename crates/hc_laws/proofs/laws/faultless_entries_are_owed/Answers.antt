-- What is owed of a store that doesn't fail.
use Rattle.hc_laws.proofs.Faultless.{faultless_are_owed}
use Rattle.hc_laws.proofs.laws.faultless_entries_are_owed.Goals as goal

pub returns : goal.returns
returns c = faultless_are_owed
