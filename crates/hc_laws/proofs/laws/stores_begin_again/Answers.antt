-- A store may begin with what a run leaves.
use Rattle.hc_laws.proofs.{LeavesGood.{leaves_good}, OriginRuns.{origins_in_runs}, SizesKeep.{sizes_in_runs}, StoredHeadsKeep.{heads_in_runs}, TagRuns.{tags_in_runs}, TargetRuns.{keys_stay_targets}}
use Rattle.hc_laws.proofs.laws.stores_begin_again.Goals as goal

pub returns-clause-again : goal.returns-clause-again
returns-clause-again c = leaves_good

pub returns-clause-keys : goal.returns-clause-keys
returns-clause-keys c = keys_stay_targets

pub returns-clause-origins : goal.returns-clause-origins
returns-clause-origins c = origins_in_runs

pub returns-clause-sizes : goal.returns-clause-sizes
returns-clause-sizes c = sizes_in_runs

pub returns-clause-heads : goal.returns-clause-heads
returns-clause-heads c = heads_in_runs

pub returns-clause-tags : goal.returns-clause-tags
returns-clause-tags c = tags_in_runs
