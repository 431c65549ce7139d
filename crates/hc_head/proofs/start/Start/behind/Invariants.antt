use Rattle.std.proofs.Common.{◌≡◌, ℕ, List, ◌++◌, drop}
use Rattle.hc_head.specs.Starts.{goes_on_from}
use Rattle.hc_head.proofs.start.Start.behind.Given as goal

abbrev pub invariant-loop-b : goal.invariant-loop-b
invariant-loop-b l =
    (more : List ℕ) → goes_on_from l.start (drop l.b-index l.bytes ++ more) ≡ goes_on_from l.fn.self (l.bytes ++ more)
