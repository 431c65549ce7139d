use Rattle.std.{proofs.Common.{◌≡◌, ◌++◌}, specs.{Prelude.{filter}, Map.{keys_of}}}
use Rattle.std.specs.BTreeMap as tree
use Rattle.hc_peers.specs.Clients.{takes_more}
use Rattle.hc_peers.proofs.clients.Clients.list_taking.Given as goal

abbrev pub invariant-loop-c : goal.invariant-loop-c
invariant-loop-c l = l.to.items ++ filter (takes_more l.self) (keys_of l.c-iterator) ≡ l.fn.to.items ++ filter (takes_more l.self) (tree.keys l.self.live)
