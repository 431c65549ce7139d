-- What an entry doesn't speak of stays.
use Rattle.hc_effects.proofs.{Frames.{parts_are_kept, others_stay, others_dont_go, gone_is_caused, exchanges_stay}, Standing.{standers_stay, readers_stay, starting_over_is_caused, others_stand_still, bound_stay, current_stays, founded_is_current}}
use Rattle.hc_laws.proofs.laws.what_is_not_spoken_of_stays.Goals as goal

pub returns-clause-parts : goal.returns-clause-parts
returns-clause-parts c = parts_are_kept

pub returns-clause-representations : goal.returns-clause-representations
returns-clause-representations c = others_stay

pub returns-clause-going : goal.returns-clause-going
returns-clause-going c = others_dont_go

pub returns-clause-gone : goal.returns-clause-gone
returns-clause-gone c = gone_is_caused

pub returns-clause-exchanges : goal.returns-clause-exchanges
returns-clause-exchanges c = exchanges_stay

pub returns-clause-consumers : goal.returns-clause-consumers
returns-clause-consumers c = standers_stay

pub returns-clause-readers : goal.returns-clause-readers
returns-clause-readers c = readers_stay

pub returns-clause-over : goal.returns-clause-over
returns-clause-over c = starting_over_is_caused

pub returns-clause-standing : goal.returns-clause-standing
returns-clause-standing c = others_stand_still

pub returns-clause-bound : goal.returns-clause-bound
returns-clause-bound c = bound_stay

pub returns-clause-current : goal.returns-clause-current
returns-clause-current c = current_stays

pub returns-clause-founded : goal.returns-clause-founded
returns-clause-founded c = founded_is_current
