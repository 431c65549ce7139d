-- How many exchanges were opened.
use Rattle.hc_laws.proofs.CountedOpenings.{openings_counted}
use Rattle.hc_laws.proofs.laws.openings_are_counted.Goals as goal

pub returns : goal.returns
returns c = openings_counted
