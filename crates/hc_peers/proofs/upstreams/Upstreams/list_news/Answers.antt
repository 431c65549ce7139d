use Rattle.hc_peers.proofs.Counting.{set-fits}
use Rattle.hc_peers.proofs.upstreams.Upstreams.list_news.Goals as goal

pub returns-in_err-push-clause-few : goal.returns-in_err-push-clause-few
returns-in_err-push-clause-few c = set-fits c.args.self.now.news c.args.self.now.rows c.iter-x-items.ensures.ordered c.args.self.now.there

pub returns-clause-few : goal.returns-clause-few
returns-clause-few c = set-fits c.args.self.now.news c.args.self.now.rows c.iter-x-items.ensures.ordered c.args.self.now.there

pub returns-in_err-push-clause-ordered : goal.returns-in_err-push-clause-ordered
returns-in_err-push-clause-ordered c = c.iter-x-items.ensures.ordered

pub returns-clause-ordered : goal.returns-clause-ordered
returns-clause-ordered c = c.iter-x-items.ensures.ordered
