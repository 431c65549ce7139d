use Rattle.std.proofs.Common.{◌-◌, refl, arith}
use Rattle.hc_msg.proofs.Fronts.{front_line, front_long_line}
use Rattle.hc_msg.proofs.line.find_line.Goals as goal

pub returns-in-Some : goal.returns-in-Some
returns-in-Some c = front_line c.args.held (1024 - c.args.held) c.args.piece.now c.in-Some.at (omega arith) (omega arith) c.in-Some.ensures

pub returns-in-None : goal.returns-in-None
returns-in-None c = (refl, front_long_line c.args.held (1024 - c.args.held) c.args.piece.now (omega arith) (omega arith) c.in-None.ensures)
