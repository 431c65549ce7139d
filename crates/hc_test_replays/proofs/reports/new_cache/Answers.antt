use Rattle.hc_replay.proofs.ReportSteps.{new_moment}
use Rattle.hc_test_replays.proofs.reports.new_cache.Goals as goal

pub returns-clause-moment : goal.returns-clause-moment
returns-clause-moment g c = new_moment c.in_ok-cache.cache c.in_ok-cache.ensures.stands
