use Rattle.std.proofs.Common.{◌+◌, ◌≤◌, length}
use Rattle.hc_core.specs.Steps.{steps}
use Rattle.hc_peers.specs.Clients.{ready_of}
use Rattle.hc_proxy.specs.Keeping.{Turn, KeepsHeard}
use Rattle.hc_proxy.specs.Rows as rows
use Rattle.hc_proxy.proofs.StartsOn.{StartsTo}
use Rattle.hc_proxy.proofs.proxy.Proxy.starts.Given as goal

abbrev pub invariant-loop : goal.invariant-loop
invariant-loop g l = record {
  goes : (t : Turn) (p : rows.Proxy) → KeepsHeard t l.fn.self p → StartsTo t l.fn.self l.self p (ready_of l.self.clients);
  counted : steps l.self.cache + length (ready_of l.self.clients) ≤ steps l.fn.self.cache + length (ready_of l.fn.self.clients);
}

abbrev pub decreases-loop : goal.decreases-loop
decreases-loop g l = length (ready_of l.self.clients)
