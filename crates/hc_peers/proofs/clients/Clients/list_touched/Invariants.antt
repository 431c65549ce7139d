use Rattle.std.proofs.Common.{◌≡◌, ◌++◌}
use Rattle.std.specs.BTreeSet as set
use Rattle.hc_peers.proofs.clients.Clients.list_touched.Given as goal

abbrev pub invariant-loop-k : goal.invariant-loop-k
invariant-loop-k l = l.to.items ++ l.k-iterator ≡ l.fn.to.items ++ set.keys l.self.touched
