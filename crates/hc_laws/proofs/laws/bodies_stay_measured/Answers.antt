-- Bodies stay measured.
use Rattle.hc_laws.proofs.MeasuresBegin.{measures_begin}
use Rattle.hc_effects.proofs.{EndsKeep.{measures_kept}, Step.{step_of}}
use Rattle.hc_laws.proofs.laws.bodies_stay_measured.Goals as goal

pub returns-clause-begun : goal.returns-clause-begun
returns-clause-begun c = λ limits contents may. measures_begin limits contents may

pub returns-clause-kept : goal.returns-clause-kept
returns-clause-kept c = λ limits t now flaw s o m event goes stand. measures_kept (step_of limits t now flaw s o event goes) m
