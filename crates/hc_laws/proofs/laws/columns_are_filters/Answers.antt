use Rattle.hc_laws.proofs.RepresentationFilters.{runs_are_filtered}
use Rattle.hc_laws.proofs.laws.columns_are_filters.Goals as goal

pub returns : goal.returns
returns c = runs_are_filtered
