use Rattle.std.proofs.Common.{◌≡◌, ◌++◌}
use Rattle.std.specs.HashMap as hash
use Rattle.hc_peers.proofs.upstreams.Upstreams.list_connections.Given as goal

abbrev pub invariant-loop-k : goal.invariant-loop-k
invariant-loop-k l = l.to.items ++ l.k-iterator ≡ l.fn.to.items ++ hash.keys l.self.dialled
