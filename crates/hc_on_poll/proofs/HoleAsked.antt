-- What is asked for a hole: the fields that are set are good and short.
use Rattle.std.{proofs.Common.{◌≡◌, ◌≤◌, ℕ, List, [], ◌++◌, length, true, Option, Some, None, Bor, refl, ap, sym, ◌∙◌, subst, arith}, specs.{Prelude.{unwrap_or, IsSomeAnd}, Option.{option_copied}}}
use Rattle.hc_fields.specs.{FieldList.{IsFieldList, is_own_value}, FirstValues.{first_value}}
use Rattle.hc_range.specs.{declared.range.Span.{Span}, Spans.{IsWithin, range_text}}
use Rattle.hc_validate.specs.Updates.{FieldPairs}
use Rattle.hc_validate.proofs.{Numbers.{own-range, short-range}, Stored.{IsFit, first_fits}}

-- the text of a range, as it is set
pub record IsRangeText (text : List ℕ) : Type 0 where
  pub own : is_own_value text ≡ true
  pub short : length text ≤ 47

within_or : (o : Option ℕ) (span : Span) → IsSomeAnd o (IsWithin span) → IsWithin span (unwrap_or o 0)
within_or None span within = absurd within
within_or (Some n) span within = within

-- it is written into an empty text
pub range_fits : (o : Option ℕ) (span : Span) (total : ℕ) (text written empty : List ℕ) → IsSomeAnd o (IsWithin span) → total ≡ unwrap_or o 0 →
    text ≡ written → written ≡ empty ++ range_text span total → empty ≡ [] → IsRangeText text
range_fits o span total text written empty fits is read made none =
    let within : IsWithin span total = subst (IsWithin span) (sym is) (within_or o span fits) in
    let reported : text ≡ range_text span total = read ∙ (made ∙ ap (λ (xs : List ℕ). xs ++ range_text span total) none) in
    subst IsRangeText (sym reported) (record { own = own-range span total within; short = short-range span total within })

pub lent_or : (o : Option (Bor (List ℕ))) (other : Bor (List ℕ)) → (unwrap_or o other).now ≡ unwrap_or (option_copied o) other.now
lent_or None other = refl
lent_or (Some found) other = refl

-- the first value of a name, or none, may be set
pub first_or_fits : (name : List ℕ) (fields : FieldPairs) → IsFieldList fields → IsFit (unwrap_or (first_value name fields) [])
first_or_fits name fields list = by_value (first_value name fields) refl
  where
    by_value : (o : Option (List ℕ)) → first_value name fields ≡ o → IsFit (unwrap_or o [])
    by_value None none = record { own = refl; short = omega arith }
    by_value (Some value) some = first_fits name fields value list some
