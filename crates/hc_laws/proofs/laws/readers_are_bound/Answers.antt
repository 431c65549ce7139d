-- Readers are bound to what is there.
use Rattle.hc_effects.proofs.{AboutKeeps.{own_about_kept}, BoundKeeps.{binds_kept}, FirstKeeps.{ends_kept, one_first_kept}, HasBound.{has_bound_kept}, ToBeShown.{unshown_kept}, Step.{step_of}}
use Rattle.hc_laws.proofs.UndueKeeps.{undue_kept}
use Rattle.hc_laws.proofs.laws.readers_are_bound.Goals as goal

pub returns-clause-there : goal.returns-clause-there
returns-clause-there c = λ limits t now flaw s event goes. binds_kept limits t now flaw s event goes

pub returns-clause-one : goal.returns-clause-one
returns-clause-one c = λ limits t now flaw s event goes. one_first_kept limits t now flaw s event goes

pub returns-clause-ends : goal.returns-clause-ends
returns-clause-ends c = λ limits t now flaw s event goes. ends_kept limits t now flaw s event goes

pub returns-clause-shown : goal.returns-clause-shown
returns-clause-shown c = λ limits t now flaw s o event goes. unshown_kept (step_of limits t now flaw s o event goes)

pub returns-clause-read : goal.returns-clause-read
returns-clause-read c = λ limits t now flaw s o event goes stand. has_bound_kept (step_of limits t now flaw s o event goes) stand

pub returns-clause-undue : goal.returns-clause-undue
returns-clause-undue c = λ limits t now flaw s o event goes stand. undue_kept (step_of limits t now flaw s o event goes) stand

pub returns-clause-about : goal.returns-clause-about
returns-clause-about c = λ limits t now flaw s o event goes stand. own_about_kept (step_of limits t now flaw s o event goes) stand
