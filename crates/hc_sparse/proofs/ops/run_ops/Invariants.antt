use Rattle.std.proofs.Common.{take}
use Rattle.hc_sparse.specs.Ops.{HasAnswered}
use Rattle.hc_sparse.proofs.ops.run_ops.Given as goal

abbrev pub invariant-loop-op : goal.invariant-loop-op
invariant-loop-op g l = HasAnswered (g.M.Presence.cells l.initial.map) (g.M.Presence.cells l.map) (take l.op-index l.ops) l.items.items
