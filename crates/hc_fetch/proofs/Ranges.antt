-- The text that asks for a range is a value of a field.
use Rattle.std.{proofs.{Common.{◌≡◌, ℕ, ◌-◌, ◌^◌, ◌<◌, true, false, not, ◌||◌, ◌==◌, List, ◌++◌, length, refl, ap, ◌∙◌, arith, length-append}, lemmas.{Bool.{or_right, Decides.{nat_tests}}, Fmt.{decimal_is_IsNumeral}, List.{get_or-append_right, get_or_append_left, Folds.{list_all-append}}, Str.Parse.{digit_at}}}, specs.{Prelude.{codes, slice_index}, List.{list_all}, Fmt.{decimal}, Int.{IsInRange}}}
use Rattle.hc_text.proofs.Basics.{and_left, some-decimal as some}
use Rattle.http_header.specs.Token.{is_value_byte}
use Rattle.hc_text.specs.Elements.{is_blank}
use Rattle.hc_fields.specs.FieldList.{is_own_value, has_own_ends}
use Rattle.hc_validate.proofs.Numbers.{own-decimal}

values : (n : ℕ) → n < 2 ^ 64 → list_all is_value_byte (decimal n) ≡ true
values n h = and_left (list_all is_value_byte (decimal n)) (has_own_ends (decimal n)) (own-decimal n h)

digit : (c : ℕ) → IsInRange 48 57 c → is_blank c ≡ false
digit c h = grind (arith, nat_tests)

last : (n : ℕ) → n < 2 ^ 64 → is_blank (slice_index (decimal n) (length (decimal n) - 1)) ≡ false
last n h =
    let filled = some n h in
    digit (slice_index (decimal n) (length (decimal n) - 1))
    (digit_at (decimal n) (length (decimal n) - 1) (decimal_is_IsNumeral n (omega (arith, h))).0.1 (omega arith))

ends : (front : List ℕ) (n : ℕ) → n < 2 ^ 64 → 0 < length front → list_all is_value_byte front ≡ true → is_blank (slice_index front 0) ≡ false →
    is_own_value (front ++ decimal n) ≡ true
ends front n h longer bytes first =
    let filled = some n h in
    let all : list_all is_value_byte (front ++ decimal n) ≡ true = list_all-append is_value_byte front (decimal n) ∙ rw (bytes, values n h) refl in
    let count = length-append front (decimal n) in
    let begins : slice_index (front ++ decimal n) 0 ≡ slice_index front 0 = get_or_append_left front (decimal n) 0 0 longer in
    let place : length (front ++ decimal n) - 1 - length front ≡ length (decimal n) - 1 = omega arith in
    let at_end : slice_index (front ++ decimal n) (length (front ++ decimal n) - 1) ≡ slice_index (decimal n) (length (decimal n) - 1) =
    get_or-append_right front (decimal n) (length front) (length (front ++ decimal n) - 1) 0 refl (omega arith) ∙
    ap (λ (i : ℕ). slice_index (decimal n) i) place in
    rw all (or_right (length (front ++ decimal n) == 0)
    (not (is_blank (slice_index (front ++ decimal n) 0) || is_blank (slice_index (front ++ decimal n) (length (front ++ decimal n) - 1))))
    (rw (begins, at_end, first, last n h) refl))

pub own-asked : (from to : ℕ) → from < 2 ^ 64 → to < 2 ^ 64 → is_own_value (codes "bytes=" ++ decimal from ++ codes "-" ++ decimal to) ≡ true
own-asked from to low high =
    ends (codes "bytes=" ++ decimal from ++ codes "-") to high (simp length-append (omega arith)) (simp list_all-append (rw (values from low) refl)) refl
