use Rattle.std.proofs.Common.{◌≡◌, drop}
use Rattle.hc_peers.specs.declared.upstreams.Upstreams.{Upstreams}
use Rattle.hc_wire.specs.Logs.{Log}
use Rattle.hc_proxy.specs.Rows as rows
use Rattle.hc_proxy.specs.Unsent.{SendsToClients}
use Rattle.hc_proxy.proofs.send.offer_clients.Given as goal

abbrev pub invariant-loop-k : goal.invariant-loop-k
invariant-loop-k g l = record {
  sends : (p : rows.Proxy) (log : Log) (up : Upstreams) → SendsToClients p log l.ks l.fn.clients up (g.W.Wire.log l.fn.wire) (g.W.Wire.stages l.fn.wire)
      → SendsToClients p log (drop l.k-index l.ks) l.clients up (g.W.Wire.log l.wire) (g.W.Wire.stages l.wire);
  events : g.W.Wire.events l.wire ≡ g.W.Wire.events l.fn.wire;
  faults : g.W.Wire.faults l.wire ≡ g.W.Wire.faults l.fn.wire;
}
