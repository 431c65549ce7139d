use Rattle.std.proofs.Common.{arith}
use Rattle.hc_piecewise.proofs.Pieces.{goes_first}
use Rattle.hc_piecewise.proofs.schedule.Schedule.new.Goals as goal

pub returns-clause-may : goal.returns-clause-may
returns-clause-may c = λ last steps received le none. ∣
    ((λ free. goes_first c.args.moment last steps received _ c.requires c.after.ensures c.new.ensures le none), omega arith) ∣₁
