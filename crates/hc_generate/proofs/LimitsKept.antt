-- What is made is no larger than what a schedule can spell.
--
-- A representation has at most 1,048,576 bytes (`in_small`), so the texts of its length and of its parts are short. The
-- answer of the test origin has its common fields, and a case adds a few; each field more adds its count and its size
-- (`one_more`). So a part, and what no range fits, are within limits (`within_limits_part`,
-- `within_limits_unsatisfied`). `within_limits_by` joins the cases. A drawn request has a short range, or no fields.
use Rattle.std.{proofs.{Common.{◌≡◌, ℕ, ◌+◌, ◌-◌, ◌/◌, ◌^◌, ◌<◌, ◌≤◌, List, [], ◌++◌, length, Bool, true, false, Option, Some, None, refl, sym, subst, arith, length-append, min}, Math.Nat.{mod-lt}, lemmas.Bool.Decides.{nat_tests}}, specs.{Prelude.{codes, bytes_eq, nat_le, nat_lt, ◌==◌, ◌&&◌, if◌then◌else◌, drop, take}, Fmt.{decimal}, Str.Parse.{digits_value}}}
use Rattle.hc_text.proofs.Basics.{and_right as both, some_same as some_is}
use Rattle.hc_event.specs.declared.event.Request.{Request}
use Rattle.hc_fields.specs.FieldList.{IsWithinLimits, size_of}
use Rattle.hc_range.specs.{declared.range.{RangeSpec.{RangeSpec}, Span.{Span}}, Spans.{resolved_span, content_range_text}}
use Rattle.hc_range.specs.declared.range.RangeSpec.TheVariants as asked
use Rattle.hc_validate.specs.{Showing.{with_length}, declared.origin.Answer.{Answer}, Origin.{IsOriginAnswer, IsAnswerOf, answer_by, cut_by, common, size_asked, size_at, size_in, path_of, part, whole, unsatisfied_answer, may_cut}, Updates.{FieldPairs, with_one}}
use Rattle.hc_validate.proofs.{Common.{size-common}, Numbers.{short-decimal}, Settings.{length-with_one, size_of-with_one}}
use Rattle.hc_generate.specs.{Draws.{draw_below, state_after_draw}, Requests.{drawn_request, range_from}}
use Rattle.hc_generate.specs.Requests as made
use Rattle.hc_generate.proofs.RangeTexts.{short-range}

-- HOW LONG A REPRESENTATION IS

then_some : (b : Bool) (o : Option ℕ) (n : ℕ) → (if b then o else None) ≡ Some n → (b ≡ true) × (o ≡ Some n)
then_some true o n is = (refl, is)
then_some false o n is = absurd (let never : None ≡ Some n = is in cc)

in_small : (text : List ℕ) (n : ℕ) → size_in text ≡ Some n → n ≤ 1048576
in_small text n is =
    let parts = then_some (bytes_eq text (decimal (digits_value 10 text)) && nat_le (digits_value 10 text) 1048576) (Some (digits_value 10 text)) n is in
    let same : digits_value 10 text ≡ n = some_is (digits_value 10 text) n parts.1 in
    let small : nat_le (digits_value 10 text) 1048576 ≡ true =
    both (bytes_eq text (decimal (digits_value 10 text))) (nat_le (digits_value 10 text) 1048576) parts.0 in
    subst (λ (m : ℕ). m ≤ 1048576) same (grind (arith, nat_tests, small))

asked_small : (request : Request) (n : ℕ) → size_asked request ≡ Some n → n ≤ 1048576
asked_small request n is =
    let at = (then_some (bytes_eq request.method (codes "GET")) (size_at (path_of request.key)) n is).1 in
    in_small (drop 2 (path_of request.key)) n (then_some (bytes_eq (take 2 (path_of request.key)) (codes "d/")) (size_in (drop 2 (path_of request.key))) n at).1

-- THE ANSWERS OF THE TEST ORIGIN

-- a field more
one_more : (name value : List ℕ) (fields : FieldPairs) (count size more : ℕ) → length fields ≤ count → size_of fields ≤ size → length name + length value ≤ more
    → (length (with_one (Rattle.http_header.specs.Token.lowercase name) value fields) ≤ count + 1) ×
    (size_of (with_one (Rattle.http_header.specs.Token.lowercase name) value fields) ≤ size + more)
one_more name value fields count size more few small short =
    let longer = length-with_one (Rattle.http_header.specs.Token.lowercase name) value fields in
    let larger = size_of-with_one name value fields in
    (omega (arith, few, longer), omega (arith, small, short, larger))

within_limits : (fields : FieldPairs) (count size : ℕ) → (length fields ≤ count) × (size_of fields ≤ size) → count ≤ 64 → size ≤ 32768 → IsWithinLimits fields
within_limits fields count size (fewer, smaller) few small = record { few = omega (arith, fewer, few); small = omega (arith, smaller, small) }

module _ (n : ℕ) (fits : n ≤ 1048576) where
  n_fits : n < 2 ^ 64
  n_fits = omega (arith, fits)

  within_limits_common : IsWithinLimits (common n)
  within_limits_common = let size = size-common n n_fits in record { few = omega arith; small = omega (arith, size) }

  with_length_small : (m : ℕ) → m < 2 ^ 64 → (length (with_length (Some m) (common n)) ≤ 4) × (size_of (with_length (Some m) (common n)) ≤ 140)
  with_length_small m small = let short = short-decimal m small in
      one_more (codes "content-length") (decimal m) (common n) 3 100 40 (omega arith) (size-common n n_fits) (omega (arith, short))

  range_short : (span : Span) → span.lo ≤ n → span.hi ≤ n → length (content_range_text span n) ≤ 68
  range_short span lo hi =
      let last_fits : span.hi - 1 < 2 ^ 64 = omega (arith, hi, fits) in
      let first_fits : span.lo < 2 ^ 64 = omega (arith, lo, fits) in
      simp length-append (omega (arith, short-decimal span.lo first_fits, short-decimal (span.hi - 1) last_fits, short-decimal n n_fits))

  within_limits_part : (span : Span) → span.lo ≤ n → span.hi ≤ n → IsWithinLimits (part n span).response.fields
  within_limits_part span lo hi =
      let length_fits : span.hi - span.lo < 2 ^ 64 = omega (arith, hi, fits) in
      let (few, small) = with_length_small (span.hi - span.lo) length_fits in
      let short = range_short span lo hi in
      within_limits (part n span).response.fields 5 240
      (one_more (codes "content-range") (content_range_text span n) (with_length (Some (span.hi - span.lo)) (common n)) 4 140 100 few small
      (omega (arith, short))) (omega arith) (omega arith)

  within_limits_unsatisfied : IsWithinLimits (unsatisfied_answer n).response.fields
  within_limits_unsatisfied =
      let (few, small) = with_length_small 0 (omega arith) in
      let digits = short-decimal n n_fits in
      let short : length (codes "bytes */" ++ decimal n) ≤ 60 = simp length-append (omega (arith, digits)) in
      within_limits (unsatisfied_answer n).response.fields 5 240
      (one_more (codes "content-range") (codes "bytes */" ++ decimal n) (with_length (Some 0) (common n)) 4 140 100 few small (omega (arith, short)))
      (omega arith) (omega arith)

  -- what is resolved ends within the length
  first_in : (lo hi : ℕ) (b : Bool) → nat_lt lo n ≡ b → hi ≤ n →
      IsWithinLimits (cut_by n (if b then Some (record { lo = lo; hi = hi }) else None)).response.fields
  first_in lo hi true below within = within_limits_part (record { lo = lo; hi = hi }) (grind (arith, nat_tests, below)) within
  first_in lo hi false off within = within_limits_unsatisfied

  last_in : (m : ℕ) (b : Bool) → IsWithinLimits (cut_by n (if b then Some (record { lo = n - m; hi = n }) else None)).response.fields
  last_in m true = within_limits_part (record { lo = n - m; hi = n }) (omega arith) (omega arith)
  last_in m false = within_limits_unsatisfied

  within_limits_cut : (asked : RangeSpec) → IsWithinLimits (cut_by n (resolved_span asked n)).response.fields
  within_limits_cut (asked.From first) = first_in first n (nat_lt first n) refl (omega arith)
  within_limits_cut (asked.FromTo first last) = first_in first (min (last + 1) n) (nat_lt first n) refl (omega arith)
  within_limits_cut (asked.Last m) = last_in m (nat_lt 0 m && nat_lt 0 n)

  within_limits_whole : IsWithinLimits (whole n).response.fields
  within_limits_whole = within_limits (whole n).response.fields 4 140 (with_length_small n n_fits) (omega arith) (omega arith)

  within_limits_by : (listed cut : Bool) (o : Option RangeSpec) → IsWithinLimits (answer_by n listed cut o).response.fields
  within_limits_by true cut o = within_limits_common
  within_limits_by false true (Some asked) = within_limits_cut asked
  within_limits_by false true None = within_limits_whole
  within_limits_by false false o = within_limits_whole

pub within_limits_answer : (request : Request) (answer : Answer) → IsOriginAnswer request answer → IsWithinLimits answer.response.fields
within_limits_answer request answer is = by_size (size_asked request) refl is
  where
    by_size : (o : Option ℕ) → size_asked request ≡ o → IsAnswerOf o request.fields answer → IsWithinLimits answer.response.fields
    by_size None at same = subst (λ (z : Answer). IsWithinLimits z.response.fields) (sym same)
        (record { few = omega arith; small = omega (arith, short-decimal 0 (omega arith)) })
    by_size (Some n) at (listed, o, read, same) =
        subst (λ (z : Answer). IsWithinLimits z.response.fields) (sym same)
        (within_limits_by n (asked_small request n at) listed (may_cut (decimal n) request.fields) o)

-- THE REQUESTS

pub drawn_below : (n s : ℕ) → 0 < n → draw_below n s < n
unfolding draw_below
drawn_below n s some = mod-lt (state_after_draw s / 2 ^ 33) some

pub within_limits_request : (s : ℕ) → IsWithinLimits (drawn_request s).fields
within_limits_request s =
    by_draw (made.size_of (draw_below 8 s)) (state_after_draw s) (let below = drawn_below 8 s (omega arith) in (omega arith, omega (arith, below)))
    (draw_below 4 (state_after_draw s) == 0)
  where
    by_draw : (size d : ℕ) → (0 < size) × (size ≤ 8000) → (b : Bool) → IsWithinLimits (if b then range_from (draw_below size (state_after_draw d)) else [])
    by_draw size d (some, small) true =
        let below = drawn_below size (state_after_draw d) some in
        let short = short-range (draw_below size (state_after_draw d)) (omega (arith, below, small)) in
        record { few = omega arith; small = omega (arith, short) }
    by_draw size d some false = record { few = omega arith; small = omega arith }
