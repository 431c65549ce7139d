use Rattle.hc_head.proofs.Spellings.{granted_spelled, shown_spelled}
use Rattle.hc_head.proofs.laws.what_is_reported_has_a_spelling.Goals as goal

pub returns-clause-requests : goal.returns-clause-requests
returns-clause-requests c = granted_spelled

pub returns-clause-answers : goal.returns-clause-answers
returns-clause-answers c = shown_spelled
