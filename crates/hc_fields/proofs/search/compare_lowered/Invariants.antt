use Rattle.std.{proofs.Common.{◌≡◌, drop}, specs.{Ordering.{nat_cmp}, Cmp.Lexicographic.{slice_cmp}}}
use Rattle.http_header.specs.Token.{lowercase}
use Rattle.hc_fields.proofs.search.compare_lowered.Given as goal

abbrev pub invariant-loop-i : goal.invariant-loop-i
invariant-loop-i l = slice_cmp nat_cmp (drop l.i (lowercase l.name)) (drop l.i l.bytes) ≡ slice_cmp nat_cmp (lowercase l.name) l.bytes
