-- What is wanted of a range in order is not empty.
use Rattle.std.{proofs.{Common.{◌≡◌, ℕ, ◌<◌, true, Option, Some, None, refl, subst, arith}, lemmas.Bool.Decides.{nat_tests}}, specs.Prelude.{is_some}}
use Rattle.hc_range.specs.{Spans.{resolved_span, IsInOrder}, declared.range.{RangeSpec.{RangeSpec}, Span.{Span}}}
use Rattle.hc_effects.proofs.Vocabulary.{wanted, wanted_of, wanted_part}
use Rattle.hc_effects.proofs.Basics.{false_true}

resolved_some : (asked : RangeSpec) (total : ℕ) (span : Span) → IsInOrder asked → resolved_span asked total ≡ Some span → span.lo < span.hi
resolved_some asked total span order is = grind (arith, nat_tests)

part_some : (o : Option Span) (span : Span) → ((z : Span) → o ≡ Some z → z.lo < z.hi) → wanted_part o ≡ wanted.Interval span → span.lo < span.hi
part_some None span proper is = absurd (let no : wanted.Unsatisfiable ≡ wanted.Interval span = is in cc)
part_some (Some z) span proper is = let same : z ≡ span = cc in subst (λ (q : Span). q.lo < q.hi) same (proper z refl)

pub wanted_some : (range : Option RangeSpec) (o : Option ℕ) (span : Span) → is_some range ≡ true →
    ((asked : RangeSpec) → range ≡ Some asked → IsInOrder asked) → wanted_of range o ≡ wanted.Interval span → span.lo < span.hi
wanted_some range None span on order is = absurd (let no : wanted.TotalUnknown ≡ wanted.Interval span = is in cc)
wanted_some None (Some n) span on order is = absurd (false_true on)
wanted_some (Some asked) (Some n) span on order is = part_some (resolved_span asked n) span (λ z found. resolved_some asked n z (order asked refl) found) is
