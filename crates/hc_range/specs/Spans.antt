-- The positions that a range asks for, and the spans that are written.
use Rattle.std.specs.Prelude.{ℕ, ◌+◌, ◌-◌, ◌<◌, ◌≤◌, ◌^◌, min, ◌==◌, ◌&&◌, nat_lt, if◌then◌else◌, List, ◌++◌, codes, Option, Some, None}
use Rattle.std.specs.Fmt.{decimal}
use Rattle.hc_range.specs.declared.range.RangeSpec.{RangeSpec}
use Rattle.hc_range.specs.declared.range.RangeSpec.TheVariants.{From, FromTo, Last}
use Rattle.hc_range.specs.declared.range.Span.{Span}

-- position p is asked for, of a representation of this length: of a suffix, one of the last n
abbrev pub Asks : RangeSpec → ℕ → ℕ → Type 0
Asks (From first) total p = first ≤ p
Asks (FromTo first last) total p = (first ≤ p) × (p ≤ last)
Asks (Last n) total p = total ≤ p + n

-- the first position isn't above the last
abbrev pub IsInOrder : RangeSpec → Type 0
IsInOrder (From first) = Unit {0}
IsInOrder (FromTo first last) = first ≤ last
IsInOrder (Last n) = Unit {0}

-- p is within the span
abbrev pub Holds : Span → ℕ → Type 0
Holds span p = (span.lo ≤ p) × (p < span.hi)

-- what is asked for, cut at the length
abbrev pub resolved_span : RangeSpec → ℕ → Option Span
resolved_span (From first) total = if nat_lt first total then Some (record { lo = first; hi = total }) else None
resolved_span (FromTo first last) total = if nat_lt first total then Some (record { lo = first; hi = min (last + 1) total }) else None
resolved_span (Last n) total = if nat_lt 0 n && nat_lt 0 total then Some (record { lo = total - n; hi = total }) else None

-- a span that isn't empty, of a representation of this length
pub record IsWithin (span : Span) (total : ℕ) : Type 0 where
  pub not_empty : span.lo < span.hi
  pub within : span.hi ≤ total
  pub small : total < 2 ^ 62

-- how the span is asked for: without its end, where that is the length
abbrev pub asked_by : Span → ℕ → RangeSpec
asked_by span total = if span.hi == total then From span.lo else FromTo span.lo (span.hi - 1)

-- the text that asks for the span
abbrev pub range_text : Span → ℕ → List ℕ
range_text span total = codes "bytes=" ++ decimal span.lo ++ codes "-" ++ (if span.hi == total then codes "" else decimal (span.hi - 1))

-- the text that tells the span and the length
abbrev pub content_range_text : Span → ℕ → List ℕ
content_range_text span total = codes "bytes " ++ decimal span.lo ++ codes "-" ++ decimal (span.hi - 1) ++ codes "/" ++ decimal total
