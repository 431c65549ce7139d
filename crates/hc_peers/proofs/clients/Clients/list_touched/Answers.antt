use Rattle.hc_peers.proofs.clients.Clients.list_touched.Goals as goal

pub returns-in_err-push-clause-ordered : goal.returns-in_err-push-clause-ordered
returns-in_err-push-clause-ordered c = c.iter-k-items.ensures.ordered

pub returns-clause-ordered : goal.returns-clause-ordered
returns-clause-ordered c = c.iter-k-items.ensures.ordered

pub returns-in_err-push-clause-settled : goal.returns-in_err-push-clause-settled
returns-in_err-push-clause-settled c = λ k off. c.args.self.now.unsettled k off

pub returns-clause-settled : goal.returns-clause-settled
returns-clause-settled c = λ k off. c.args.self.now.unsettled k off
