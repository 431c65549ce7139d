use Rattle.hc_peers.proofs.upstreams.Upstreams.list_touched.Goals as goal

pub returns-in_err-push-clause-ordered : goal.returns-in_err-push-clause-ordered
returns-in_err-push-clause-ordered c = c.iter-x-items.ensures.ordered

pub returns-clause-ordered : goal.returns-clause-ordered
returns-clause-ordered c = c.iter-x-items.ensures.ordered
