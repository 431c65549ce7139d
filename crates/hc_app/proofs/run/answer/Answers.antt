use Rattle.hc_app.specs.Answering as answering
use Rattle.hc_app.proofs.Answered.{unbound_answer}
use Rattle.hc_app.proofs.run.answer.Goals as goal

pub returns-in-Ok-clause-answers : goal.returns-in-Ok-clause-answers
returns-in-Ok-clause-answers g c = answering.answered _ _ _ c.in-Ok.ensures.ok c.origin_on.ensures.answers c.answered.ensures

pub returns-in-Err-clause-answers : goal.returns-in-Err-clause-answers
returns-in-Err-clause-answers g c = rw c.unbound.ensures (unbound_answer _ _ _ _ _ c.in-Err.ensures.err)
