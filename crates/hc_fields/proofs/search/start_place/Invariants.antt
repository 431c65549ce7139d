use Rattle.std.proofs.Common.{◌-◌}
use Rattle.http_header.specs.Token.{lowercase}
use Rattle.hc_fields.specs.Marks.{fields_at}
use Rattle.hc_fields.proofs.Places.{Narrowed}
use Rattle.hc_fields.proofs.search.start_place.Given as goal

abbrev pub invariant-loop-low : goal.invariant-loop-low
invariant-loop-low l = Narrowed (lowercase l.name) (fields_at l.text l.marks) l.low l.high l.found

abbrev pub decreases-loop-low : goal.decreases-loop-low
decreases-loop-low l = l.high - l.low
