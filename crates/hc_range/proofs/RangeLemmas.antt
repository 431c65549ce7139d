-- Ranges are read from what is written.
use Rattle.std.{proofs.{Common.{ℕ, ◌-◌, ◌<◌, ◌≤◌, ◌^◌, Bool, true, false, cond, eqb, [], ◌∷◌, ◌++◌, Some, refl, arith}, lemmas.List.{append-nil}}, specs.Fmt.{decimal}}
use Rattle.hc_text.proofs.NumberLemmas.{IsNumber-decimal}
use Rattle.hc_range.specs.{declared.range.{RangeSpec.TheVariants.{From, FromTo}, ContentRange.TheVariants.{Part}, Span.{Span}}, Ranges.{SpellsPositions, SpellsSpec, SpellsRange, SpellsContentRange}, Spans.{IsWithin, asked_by, range_text, content_range_text}}

positions-decimal : (first last : ℕ) → first ≤ last → last < 2 ^ 62 → SpellsPositions (decimal first ++ 45 ∷ [] ++ decimal last) first last
positions-decimal first last up small = (decimal first, decimal last, IsNumber-decimal first (omega arith), IsNumber-decimal last small, up, refl)

spec-written : (whole : Bool) (lo last : ℕ) → lo ≤ last → last < 2 ^ 62 →
    SpellsSpec (decimal lo ++ 45 ∷ [] ++ cond whole [] (decimal last)) (cond whole (From lo) (FromTo lo last))
spec-written true lo last up small = (decimal lo, IsNumber-decimal lo (omega arith), append-nil (decimal lo ++ 45 ∷ []))
spec-written false lo last up small = positions-decimal lo last up small

pub range_text_spells : (span : Span) (total : ℕ) → IsWithin span total → SpellsRange (range_text span total) (asked_by span total)
range_text_spells span total h = (
  98 ∷ 121 ∷ 116 ∷ 101 ∷ 115 ∷ 61 ∷ [],
  decimal span.lo ++ 45 ∷ [] ++ cond (eqb span.hi total) [] (decimal (span.hi - 1)),
  refl,
  spec-written (eqb span.hi total) span.lo (span.hi - 1) (omega (arith, h.not_empty)) (omega (arith, h.not_empty, h.within, h.small)),
  refl,
)

pub content_range_text_spells : (span : Span) (total : ℕ) → IsWithin span total →
    SpellsContentRange (content_range_text span total) (Part span.lo (span.hi - 1) (Some total))
content_range_text_spells span total h =
    let last = span.hi - 1 in (
      98 ∷ 121 ∷ 116 ∷ 101 ∷ 115 ∷ 32 ∷ [],
      decimal span.lo ++ 45 ∷ [] ++ decimal last ++ 47 ∷ [] ++ decimal total,
      refl,
      (
        decimal span.lo ++ 45 ∷ [] ++ decimal last,
        decimal total,
        positions-decimal span.lo last (omega (arith, h.not_empty)) (omega (arith, h.within, h.small)),
        (IsNumber-decimal total h.small, omega (arith, h.not_empty, h.within)),
        refl,
      ),
      refl,
    )
