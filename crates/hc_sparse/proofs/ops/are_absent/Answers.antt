use Rattle.std.proofs.Common.{sym}
use Rattle.hc_sparse.proofs.OpLemmas.{absent-all, next-reports}
use Rattle.hc_sparse.proofs.ops.are_absent.Goals as goal

pub returns-in-Some : goal.returns-in-Some
returns-in-Some g c = next-reports (g.M.Presence.cells c.args.map.now) c.args.p c.args.len c.in-Some.n c.in-Some.ensures.next

pub returns-in-None : goal.returns-in-None
returns-in-None g c = sym (absent-all (g.M.Presence.cells c.args.map.now) c.args.p c.args.len (λ q ge lt. c.in-None.ensures.next q ge))
