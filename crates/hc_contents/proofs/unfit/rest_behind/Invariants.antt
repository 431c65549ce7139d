use Rattle.std.proofs.Common.{◌≡◌, ◌+◌, drop}
use Rattle.hc_rules.specs.Rooms.{weight_of}
use Rattle.hc_model.specs.Tables.{bytes_in}
use Rattle.hc_contents.proofs.unfit.rest_behind.Given as goal

abbrev pub invariant-loop-run : goal.invariant-loop-run
invariant-loop-run l = weight_of (bytes_in l.run-items) + l.left ≡ l.most + bytes_in (drop l.run-index l.run-items)
