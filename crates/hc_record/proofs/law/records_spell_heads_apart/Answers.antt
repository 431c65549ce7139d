use Rattle.hc_record.specs.Plain.{plain}
use Rattle.hc_record.proofs.SameRecords.{same, same_head}
use Rattle.hc_record.proofs.law.records_spell_heads_apart.Goals as goal

pub returns-clause-apart : goal.returns-clause-apart
returns-clause-apart c = λ v w other own is. same_head (plain c.args._head.now) other v w c.args._head.now.own own is

pub returns-clause-prefix : goal.returns-clause-prefix
returns-clause-prefix c = λ v w other rest own is. (same (plain c.args._head.now) other v w rest c.args._head.now.own own is).nothing
