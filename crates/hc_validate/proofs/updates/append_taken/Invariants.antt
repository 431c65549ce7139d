use Rattle.std.proofs.Common.{◌≡◌, drop}
use Rattle.hc_validate.specs.Updates.{changeable_fields, with_all}
use Rattle.hc_validate.proofs.updates.append_taken.Given as goal

abbrev pub invariant-loop-i : goal.invariant-loop-i
invariant-loop-i l = with_all (changeable_fields (drop l.i l.from)) l.kept ≡ with_all (changeable_fields l.from) l.fn.kept
