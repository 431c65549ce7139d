use Rattle.hc_peers.proofs.{Counting.{contains-key}, UpstreamTables.{dialled-at}}
use Rattle.hc_peers.proofs.upstreams.Upstreams.list_connections.Goals as goal

pub returns-in_err-push-clause-all : goal.returns-in_err-push-clause-all
returns-in_err-push-clause-all c = λ x upstream is.
    let s = c.args.self.now in
    contains-key s.dialled upstream.k (dialled-at s.rows s.dialled x upstream s.inverse is)

pub returns-clause-all : goal.returns-clause-all
returns-clause-all c = λ x upstream is.
    let s = c.args.self.now in
    contains-key s.dialled upstream.k (dialled-at s.rows s.dialled x upstream s.inverse is)
