use Rattle.std.{proofs.Common.{◌≡◌, ℕ, true, false}, specs.Prelude.{take}}
use Rattle.hc_wire.specs.Logs.{Log}
use Rattle.hc_proxy.specs.{Keeping.{Frame}, Resting.{Rests}}
use Rattle.hc_proxy.specs.Rows as rows
use Rattle.hc_proxy.proofs.{SkippedSteps.{among}, Waited.{brings}}
use Rattle.hc_proxy.proofs.proxy.Proxy.hears_something.Given as goal

abbrev pub invariant-loop-i : goal.invariant-loop-i
invariant-loop-i g l = (f : Frame) (p : rows.Proxy) (log : Log) → Rests f l.fn.self p log →
    (y : ℕ) → among y (take l.i l.self.round.items) ≡ true → brings p y ≡ false
