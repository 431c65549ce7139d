use Rattle.hc_bench.proofs.Absence.{AwaitsRest}
use Rattle.hc_bench.proofs.sparse.put.Given as goal

abbrev pub invariant-loop-k : goal.invariant-loop-k
invariant-loop-k g l = AwaitsRest l.order l.pieces l.k (g.M.Presence.cells l.body)
