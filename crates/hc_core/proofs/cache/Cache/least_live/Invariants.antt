use Rattle.std.proofs.Common.{◌≡◌, None}
use Rattle.std.specs.HashMap as hash
use Rattle.hc_core.proofs.LeastLive.{least_of}
use Rattle.hc_core.proofs.cache.Cache.least_live.Given as goal

abbrev pub invariant-loop-c : goal.invariant-loop-c
invariant-loop-c g l = least_of l.least l.c-iterator ≡ least_of None (hash.keys l.self.rows.consumers)
