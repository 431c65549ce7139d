-- Where a consumer stands tells what holds of it.
use Rattle.hc_laws.proofs.PlaceRuns.{places_in_runs}
use Rattle.hc_laws.proofs.laws.places_are_known.Goals as goal

pub returns : goal.returns
returns c = places_in_runs
