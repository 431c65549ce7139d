-- Numbers as values of fields.
--
-- Digits are bytes that a value may have, and none is a blank. So a number is a value of a field (`own-decimal`), of at
-- most 20 bytes. A text that begins with no blank and ends with a number is one too (`own-ends`): its last byte is the
-- number's (`last-decimal`). So is one that ends with another byte that is no blank (`own-last`). By these the texts of
-- parts, of ranges and of quoted numbers are values (`own-content_range`, `own-range`, `own-quoted`).
use Rattle.std.{proofs.{Common.{◌≡◌, ℕ, ◌-◌, ◌^◌, ◌<◌, ◌≤◌, Bool, true, false, not, ◌||◌, ◌==◌, List, [], ◌∷◌, ◌++◌, length, refl, ap, sym, ◌∙◌, subst, arith, length-append}, lemmas.{Bool.{or_right, Decides.{nat_tests}}, Fmt.{decimal_is_IsNumeral, length-decimal-le}, List.{append-nil, get_or-append_right, get_or_append_left, Folds.{list_all-append}}, Str.Parse.{digit_at}}}, specs.{Prelude.{codes, slice_index, if◌then◌else◌}, List.{list_all}, Fmt.{decimal}, Int.{IsInRange}, Str.Parse.{AllDigits}}}
use Rattle.hc_text.proofs.Basics.{list_all-digits, some-decimal}
use Rattle.http_header.specs.Token.{is_value_byte}
use Rattle.hc_text.specs.Elements.{is_blank}
use Rattle.hc_fields.specs.FieldList.{is_own_value}
use Rattle.hc_range.specs.{declared.range.Span.{Span}, Spans.{IsWithin, content_range_text, range_text}}

is_value_byte-digit : (c : ℕ) → IsInRange 48 57 c → is_value_byte c ≡ true
is_value_byte-digit c h = grind (arith, nat_tests)

is_blank-digit : (c : ℕ) → IsInRange 48 57 c → is_blank c ≡ false
is_blank-digit c h = grind (arith, nat_tests)

AllDigits-decimal : (n : ℕ) → n < 2 ^ 64 → AllDigits 10 (decimal n)
AllDigits-decimal n h = (decimal_is_IsNumeral n (omega (arith, h))).0.1

values-decimal : (n : ℕ) → n < 2 ^ 64 → list_all is_value_byte (decimal n) ≡ true
values-decimal n h = list_all-digits is_value_byte is_value_byte-digit (decimal n) (AllDigits-decimal n h)

-- the last byte of a number is no blank
last-decimal : (n : ℕ) → n < 2 ^ 64 → is_blank (slice_index (decimal n) (length (decimal n) - 1)) ≡ false
last-decimal n h =
    let some = some-decimal n h in
    is_blank-digit (slice_index (decimal n) (length (decimal n) - 1)) (digit_at (decimal n) (length (decimal n) - 1) (AllDigits-decimal n h) (omega arith))

-- a number is a value of a field
pub own-decimal : (n : ℕ) → n < 2 ^ 64 → is_own_value (decimal n) ≡ true
own-decimal n h =
    let some = some-decimal n h in
    let first = is_blank-digit (slice_index (decimal n) 0) (digit_at (decimal n) 0 (AllDigits-decimal n h) some) in
    let last = last-decimal n h in
    rw (values-decimal n h) (or_right (length (decimal n) == 0)
    (not (is_blank (slice_index (decimal n) 0) || is_blank (slice_index (decimal n) (length (decimal n) - 1)))) (rw (first, last) refl))

pub short-decimal : (n : ℕ) → n < 2 ^ 64 → length (decimal n) ≤ 20
short-decimal n h = length-decimal-le 20 n (omega arith) (omega (arith, h)) h

-- a text that begins with no blank and ends with a number is a value of a field
own-ends : (front : List ℕ) (n : ℕ) → n < 2 ^ 64 → 0 < length front → list_all is_value_byte front ≡ true → is_blank (slice_index front 0) ≡ false →
    is_own_value (front ++ decimal n) ≡ true
own-ends front n h longer bytes first =
    let some = some-decimal n h in
    let all : list_all is_value_byte (front ++ decimal n) ≡ true = list_all-append is_value_byte front (decimal n) ∙ rw (bytes, values-decimal n h) refl in
    let count = length-append front (decimal n) in
    let begins : slice_index (front ++ decimal n) 0 ≡ slice_index front 0 = get_or_append_left front (decimal n) 0 0 longer in
    let place : length (front ++ decimal n) - 1 - length front ≡ length (decimal n) - 1 = omega arith in
    let ends : slice_index (front ++ decimal n) (length (front ++ decimal n) - 1) ≡ slice_index (decimal n) (length (decimal n) - 1) =
    get_or-append_right front (decimal n) (length front) (length (front ++ decimal n) - 1) 0 refl (omega arith) ∙
    ap (λ (i : ℕ). slice_index (decimal n) i) place in
    rw all (or_right (length (front ++ decimal n) == 0)
    (not (is_blank (slice_index (front ++ decimal n) 0) || is_blank (slice_index (front ++ decimal n) (length (front ++ decimal n) - 1))))
    (rw (begins, ends, first, last-decimal n h) refl))

-- the place of a part is a value of a field, of 68 bytes at most
pub own-content_range : (span : Span) (total : ℕ) → IsWithin span total → is_own_value (content_range_text span total) ≡ true
own-content_range span total within =
    let last_fits : span.hi - 1 < 2 ^ 64 = omega (arith, within.within, within.small) in
    let first_fits : span.lo < 2 ^ 64 = omega (arith, within.not_empty, within.within, within.small) in
    own-ends (codes "bytes " ++ decimal span.lo ++ codes "-" ++ decimal (span.hi - 1) ++ codes "/") total (omega (arith, within.small))
    (simp length-append (omega arith))
    (simp list_all-append (rw (values-decimal span.lo first_fits, values-decimal (span.hi - 1) last_fits) refl)) refl

-- a text that begins with no blank and ends with one more byte, which is none, is a value of a field
own-last : (front : List ℕ) (b : ℕ) → 0 < length front → list_all is_value_byte front ≡ true → is_blank (slice_index front 0) ≡ false →
    is_value_byte b ≡ true → is_blank b ≡ false → is_own_value (front ++ b ∷ []) ≡ true
own-last front b longer bytes first value last =
    let all : list_all is_value_byte (front ++ b ∷ []) ≡ true = list_all-append is_value_byte front (b ∷ []) ∙ rw (bytes, value) refl in
    let count = length-append front (b ∷ []) in
    let begins : slice_index (front ++ b ∷ []) 0 ≡ slice_index front 0 = get_or_append_left front (b ∷ []) 0 0 longer in
    let place : length (front ++ b ∷ []) - 1 - length front ≡ 0 = omega arith in
    let ends : slice_index (front ++ b ∷ []) (length (front ++ b ∷ []) - 1) ≡ b =
    get_or-append_right front (b ∷ []) (length front) (length (front ++ b ∷ []) - 1) 0 refl (omega arith) ∙ ap (λ (i : ℕ). slice_index (b ∷ []) i) place in
    rw all (or_right (length (front ++ b ∷ []) == 0)
    (not (is_blank (slice_index (front ++ b ∷ []) 0) || is_blank (slice_index (front ++ b ∷ []) (length (front ++ b ∷ []) - 1))))
    (rw (begins, ends, first, last) refl))

-- the text that asks for a part is a value of a field, of 47 bytes at most
pub own-range : (span : Span) (total : ℕ) → IsWithin span total → is_own_value (range_text span total) ≡ true
own-range span total within = by_test (span.hi == total)
  where
    last_fits : span.hi - 1 < 2 ^ 64
    last_fits = omega (arith, within.within, within.small)

    first_fits : span.lo < 2 ^ 64
    first_fits = omega (arith, within.not_empty, within.within, within.small)

    by_test : (b : Bool) → is_own_value (codes "bytes=" ++ decimal span.lo ++ codes "-" ++ (if b then codes "" else decimal (span.hi - 1))) ≡ true
    by_test true = subst (λ (text : List ℕ). is_own_value text ≡ true) (sym (append-nil (codes "bytes=" ++ decimal span.lo ++ codes "-")))
        (own-last (codes "bytes=" ++ decimal span.lo) 45 (simp length-append (omega arith))
        (simp list_all-append (rw (values-decimal span.lo first_fits) refl)) refl refl refl)
    by_test false =
        own-ends (codes "bytes=" ++ decimal span.lo ++ codes "-") (span.hi - 1) last_fits
        (simp length-append (omega arith)) (simp list_all-append (rw (values-decimal span.lo first_fits) refl)) refl

pub short-range : (span : Span) (total : ℕ) → IsWithin span total → length (range_text span total) ≤ 47
short-range span total within = by_test (span.hi == total)
  where
    last_fits : span.hi - 1 < 2 ^ 64
    last_fits = omega (arith, within.within, within.small)

    first_fits : span.lo < 2 ^ 64
    first_fits = omega (arith, within.not_empty, within.within, within.small)

    by_test : (b : Bool) → length (codes "bytes=" ++ decimal span.lo ++ codes "-" ++ (if b then codes "" else decimal (span.hi - 1))) ≤ 47
    by_test true = simp length-append (omega (arith, short-decimal span.lo first_fits))
    by_test false = simp length-append (omega (arith, short-decimal span.lo first_fits, short-decimal (span.hi - 1) last_fits))

abbrev pub quoted : ℕ → List ℕ
quoted n = (34 ∷ decimal n) ++ 34 ∷ []

-- a number in quotes is a value of a field
pub own-quoted : (n : ℕ) → n < 2 ^ 64 → is_own_value (quoted n) ≡ true
own-quoted n h = own-last (34 ∷ decimal n) 34 (omega arith) (rw (values-decimal n h) refl) refl refl refl

pub length-quoted : (n : ℕ) → n < 2 ^ 64 → length (quoted n) ≤ 22
length-quoted n h = simp length-append (omega (arith, short-decimal n h))

-- a length that no range fits is a value of a field
pub own-unsatisfied : (n : ℕ) → n < 2 ^ 64 → is_own_value (codes "bytes */" ++ decimal n) ≡ true
own-unsatisfied n h = own-ends (codes "bytes */") n h (omega arith) refl refl
