use Rattle.std.proofs.Common.{arith}
use Rattle.hc_cachectl.proofs.Steps.{plain_is}
use Rattle.hc_cachectl.proofs.seconds.read_delta_seconds.Goals as goal

pub loop-digit-init : goal.loop-digit-init
loop-digit-init c = record { small = omega arith; seconds = plain_is c.args.digits.now }
