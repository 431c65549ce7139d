use Rattle.hc_piecewise.proofs.{Refusals.{stepped_to_refusal}, Texts.{pieces_as_one, stepped_through}}
use Rattle.hc_piecewise.proofs.laws.pieces_are_as_one.Goals as goal

pub returns-clause-one : goal.returns-clause-one
returns-clause-one g c = pieces_as_one g.T.Stepper.answers

pub returns-clause-whole : goal.returns-clause-whole
returns-clause-whole g c = stepped_through g.T.Stepper.answers g.T.Stepper.spent

pub returns-clause-refused : goal.returns-clause-refused
returns-clause-refused g c = stepped_to_refusal g.T.Stepper.answers g.T.Stepper.spent
