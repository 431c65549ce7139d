use Rattle.std.proofs.Common.{length}
use Rattle.hc_wire.proofs.scripted.+ends_once.Given as goal

abbrev pub decreases-ends_once : goal.decreases-ends_once
decreases-ends_once l = length l.script.now
