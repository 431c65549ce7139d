use Rattle.std.proofs.Common.{◌-◌, refl, arith}
use Rattle.hc_head.proofs.Fronts.{front_head, front_long}
use Rattle.hc_head.proofs.head.find_end.Goals as goal

pub returns-in-Ends : goal.returns-in-Ends
returns-in-Ends c = front_head c.args.held (32768 - c.args.held) c.args.scan c.args.piece.now c.in-Ends.n (omega arith) (omega arith) c.in-Ends.ensures

pub returns-in-Open : goal.returns-in-Open
returns-in-Open c = (refl, front_long c.args.held (32768 - c.args.held) c.args.scan _ c.args.piece.now (omega arith) (omega arith) c.in-Open.ensures)
