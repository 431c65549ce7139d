use Rattle.std.proofs.Common.{arith}
use Rattle.hc_entry.proofs.tournament.Tournament.grow.Goals as goal

pub set-requires : goal.set-requires
set-requires c = let i = c.loop-place.invariant.size in omega arith
