use Rattle.std.proofs.Common.{◌≡◌}
use Rattle.hc_proxy.proofs.NewsLoop.{HearsAt}
use Rattle.hc_proxy.proofs.proxy.Proxy.network.Given as goal

abbrev pub invariant-loop-i : goal.invariant-loop-i
invariant-loop-i g l = record {
  heard : HearsAt l.fn.self l.self l.initial.self.round.items l.i;
  round : l.self.round ≡ l.initial.self.round;
}
