use Rattle.std.proofs.Common.{◌≡◌, drop}
use Rattle.hc_fetch.specs.Deciding.{by_failure}
use Rattle.hc_fetch.proofs.deciding.failure_in.Given as goal

abbrev pub invariant-loop-act : goal.invariant-loop-act
invariant-loop-act l = by_failure l.acts ≡ by_failure (drop l.act-index l.acts)
