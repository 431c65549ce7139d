use Rattle.std.proofs.Common.{◌≡◌, drop}
use Rattle.hc_validate.specs.Updates.{left_by, changeable_fields}
use Rattle.hc_validate.proofs.updates.drop_renewed.Given as goal

abbrev pub invariant-loop-i : goal.invariant-loop-i
invariant-loop-i l = left_by (changeable_fields (drop l.i l.from)) l.kept ≡ left_by (changeable_fields l.from) l.fn.kept
