use Rattle.hc_txn.proofs.AdmissionPlans.{admissions-planned}
use Rattle.hc_txn.proofs.plan.admissions_are_planned.Goals as goal

pub returns : goal.returns
returns c = admissions-planned
