use Rattle.hc_effects.proofs.{NamesKeep.{names_are_kept}, NumbersKeep.{numbers_are_kept}}
use Rattle.hc_laws.proofs.laws.numbers_are_given_out.Goals as goal

pub returns-clause-listed : goal.returns-clause-listed
returns-clause-listed c = numbers_are_kept

pub returns-clause-named : goal.returns-clause-named
returns-clause-named c = names_are_kept
