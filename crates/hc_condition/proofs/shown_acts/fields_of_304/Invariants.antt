use Rattle.std.proofs.Common.{◌≡◌}
use Rattle.hc_condition.specs.NotModified.{fields_of_304}
use Rattle.hc_condition.proofs.Reported.{left_reported}
use Rattle.hc_condition.proofs.shown_acts.fields_of_304.Given as goal

abbrev pub invariant-loop-i : goal.invariant-loop-i
invariant-loop-i l = left_reported l.i l.fields l.reported ≡ fields_of_304 l.fields
