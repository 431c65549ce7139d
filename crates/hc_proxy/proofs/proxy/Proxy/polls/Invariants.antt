use Rattle.std.{proofs.Common.{◌≡◌, ◌+◌}, specs.Prelude.{take}}
use Rattle.hc_core.specs.Steps.{steps}
use Rattle.hc_proxy.specs.Keeping.{Turn, KeepsHeard}
use Rattle.hc_proxy.specs.Rows as rows
use Rattle.hc_proxy.proofs.PollsOn.{PollsTo}
use Rattle.hc_proxy.proofs.proxy.Proxy.polls.Given as goal

abbrev pub invariant-loop-i : goal.invariant-loop-i
invariant-loop-i g l = record {
  goes : (t : Turn) (p : rows.Proxy) → KeepsHeard t l.fn.self p → PollsTo t l.fn.self l.self p (take l.i l.initial.self.round.items);
  round : l.self.round ≡ l.initial.self.round;
  counted : steps l.self.cache ≡ steps l.fn.self.cache + l.i;
}
