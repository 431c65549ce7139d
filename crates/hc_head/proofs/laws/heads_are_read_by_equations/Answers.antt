use Rattle.hc_head.proofs.Decoding.{asked_in_is, heard_in_is}
use Rattle.hc_head.proofs.laws.heads_are_read_by_equations.Goals as goal

pub returns-clause-requests : goal.returns-clause-requests
returns-clause-requests c = asked_in_is

pub returns-clause-answers : goal.returns-clause-answers
returns-clause-answers c = heard_in_is
