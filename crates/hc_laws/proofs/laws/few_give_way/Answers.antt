-- What is stored fits, and few give way.
use Rattle.hc_effects.proofs.FewGiveWay.{few_give_way}
use Rattle.hc_laws.proofs.FitsRuns.{fits_in_runs, few_in_runs}
use Rattle.hc_laws.proofs.laws.few_give_way.Goals as goal

pub returns-clause-fits : goal.returns-clause-fits
returns-clause-fits c = fits_in_runs

pub returns-clause-runs : goal.returns-clause-runs
returns-clause-runs c = few_in_runs

pub returns-clause-few : goal.returns-clause-few
returns-clause-few c = few_give_way
