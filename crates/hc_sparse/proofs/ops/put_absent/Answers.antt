use Rattle.std.proofs.Common.{sym, length}
use Rattle.hc_sparse.proofs.OpLemmas.{all-absent}
use Rattle.hc_sparse.proofs.ops.put_absent.Goals as goal

pub put-requires-clause-absent : goal.put-requires-clause-absent
put-requires-clause-absent g c = all-absent (g.M.Presence.cells c.args.map.now) c.args.at (length c.args.bytes.now) (sym c.if-not-are_absent.ensures)
