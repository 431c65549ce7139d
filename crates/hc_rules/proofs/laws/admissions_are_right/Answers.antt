use Rattle.hc_rules.proofs.{AdmissionLaws.{admits-as-planned}, LeastLaws.{admissions-right}}
use Rattle.hc_rules.proofs.laws.admissions_are_right.Goals as goal

pub returns-clause-beside : goal.returns-clause-beside
returns-clause-beside c = admissions-right

pub returns-clause-planned : goal.returns-clause-planned
returns-clause-planned c = admits-as-planned
