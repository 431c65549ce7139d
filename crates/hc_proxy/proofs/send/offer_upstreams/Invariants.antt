use Rattle.std.proofs.Common.{◌≡◌, drop}
use Rattle.hc_core.specs.Steps.{StandsFor}
use Rattle.hc_effects.proofs.Vocabulary.{tables}
use Rattle.hc_peers.specs.declared.clients.Clients.{Clients}
use Rattle.hc_wire.specs.Logs.{Log}
use Rattle.hc_proxy.specs.Rows as rows
use Rattle.hc_proxy.specs.Unsent.{SendsToOrigins}
use Rattle.hc_proxy.proofs.send.offer_upstreams.Given as goal

abbrev pub invariant-loop-x : goal.invariant-loop-x
invariant-loop-x g l = record {
  sends : (p : rows.Proxy) (log : Log) (cl : Clients) → StandsFor l.fn.cache p.setting.contents p.history → p.tables ≡ tables p.setting.contents p.history
      → SendsToOrigins p log l.xs cl l.fn.upstreams (g.W.Wire.log l.fn.wire) (g.W.Wire.stages l.fn.wire)
      → SendsToOrigins p log (drop l.x-index l.xs) cl l.upstreams (g.W.Wire.log l.wire) (g.W.Wire.stages l.wire);
  events : g.W.Wire.events l.wire ≡ g.W.Wire.events l.fn.wire;
  faults : g.W.Wire.faults l.wire ≡ g.W.Wire.faults l.fn.wire;
}
