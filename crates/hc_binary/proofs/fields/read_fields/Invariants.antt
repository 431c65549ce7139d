use Rattle.std.proofs.Common.{length}
use Rattle.hc_fields.specs.FieldList.{IsWithinLimits}
use Rattle.hc_binary.specs.FieldTexts.{IsRest}
use Rattle.hc_binary.proofs.fields.read_fields.Given as goal

abbrev pub invariant-loop-line : goal.invariant-loop-line
invariant-loop-line l = IsRest l.fn.text l.fields l.rest × IsWithinLimits l.fields

abbrev pub decreases-loop-line : goal.decreases-loop-line
decreases-loop-line l = length l.rest
