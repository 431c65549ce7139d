-- What makes room comes last.
use Rattle.hc_effects.proofs.{Evicting.{evicts_one, any_leaves_one_current}, EvictsLast.{evictions_come_last}, GivingWay.{makes_room, some_give_way, has_no_room, has_too_large, writes_nothing}, IdleNow.{idle_but_gone}}
use Rattle.hc_laws.proofs.laws.evictions_come_last.Goals as goal

pub returns-clause-last : goal.returns-clause-last
returns-clause-last c = evictions_come_last

pub returns-clause-one : goal.returns-clause-one
returns-clause-one c = evicts_one

pub returns-clause-any : goal.returns-clause-any
returns-clause-any c = any_leaves_one_current

pub returns-clause-idle : goal.returns-clause-idle
returns-clause-idle c = idle_but_gone

pub returns-clause-room : goal.returns-clause-room
returns-clause-room c = makes_room

pub returns-clause-enough : goal.returns-clause-enough
returns-clause-enough c = some_give_way

pub returns-clause-full : goal.returns-clause-full
returns-clause-full c = has_no_room

pub returns-clause-large : goal.returns-clause-large
returns-clause-large c = has_too_large

pub returns-clause-none : goal.returns-clause-none
returns-clause-none c = writes_nothing
