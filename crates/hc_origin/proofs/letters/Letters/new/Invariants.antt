use Rattle.std.proofs.Common.{◌≡◌}
use Rattle.hc_origin.specs.Answering.{bytes_between}
use Rattle.hc_origin.proofs.letters.Letters.new.Given as goal

abbrev pub invariant-loop-position : goal.invariant-loop-position
invariant-loop-position l = l.bytes.items ≡ bytes_between 0 l.position
