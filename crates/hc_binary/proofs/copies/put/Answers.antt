use Rattle.std.proofs.Common.{arith}
use Rattle.hc_binary.proofs.Rooms.{puts}
use Rattle.hc_binary.proofs.copies.put.Goals as goal

pub returns-clause-puts : goal.returns-clause-puts
returns-clause-puts c = puts c.args.into.now c.args.bytes.now c.copy_from_slice.new.self c.args.at c.min-n.result _ c.requires c.min-n.ensures
    (omega arith) c.copy_from_slice.ensures.len c.copy_from_slice.ensures.after
