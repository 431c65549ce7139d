use Rattle.hc_fetch.proofs.{Bodies.{writes_the_body, writes_on_with_more}, Whole.{writes_all_of_it}}
use Rattle.hc_fetch.proofs.laws.what_is_written_is_the_body.Goals as goal

pub returns-clause-body : goal.returns-clause-body
returns-clause-body c = writes_the_body

pub returns-clause-on : goal.returns-clause-on
returns-clause-on c = writes_on_with_more

pub returns-clause-all : goal.returns-clause-all
returns-clause-all c = writes_all_of_it
