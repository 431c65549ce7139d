use Rattle.std.proofs.Common.{◌≡◌, take}
use Rattle.hc_rules.specs.Admissions.{least_of}
use Rattle.hc_rules.proofs.admission.least_of.Given as goal

abbrev pub invariant-loop-b : goal.invariant-loop-b
invariant-loop-b l = l.least ≡ least_of l.kind (take l.b-index l.bound)
