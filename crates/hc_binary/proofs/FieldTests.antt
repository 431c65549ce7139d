-- What the tests of a field tell.
use Rattle.std.{proofs.{Common.{◌≡◌, ℕ, ◌≤◌, true, false, Bool, ◌&&◌, List, length, Option, Some, None, refl, ap, inl, inr, arith, leb-true}, lemmas.{Bool.{and_parts, and_from, both_ways, le-leb}, List.Sums.{AllPass-from_list_all, list_all-from_AllPass}}}, specs.{List.{list_all}, Prelude.{nat_le, if◌then◌else◌}}}
use Rattle.http_header.specs.Token.{IsToken, is_token_byte, lowercase}
use Rattle.hc_fields.specs.{FieldList.{field_list_with, size_of, is_own_value, IsAllowed, IsWithinLimits, Refuses}, declared.error.FieldError.{FieldError}}
use Rattle.hc_fields.specs.declared.error.FieldError.TheVariants as error
use Rattle.hc_text.proofs.Basics.{never_true}
use Rattle.hc_fields.proofs.{Edits.{length-put, size_of-put}, Kept.{length-lowercase}}
use Rattle.hc_sched.specs.{Words.{◌>>=◌}, FieldLines.{field_parts}}
use Rattle.hc_binary.specs.FieldTexts.{is_field, are_within_limits, with_field, line_behind}

abbrev Pair : Type 0
Pair = List ℕ × List ℕ

-- the list with the field
abbrev put : List Pair → List ℕ → List ℕ → List Pair
put fs name value = field_list_with (lowercase name) value fs

some_if : (b : Bool) (fs : List Pair) → b ≡ true → (if b then Some fs else None) ≡ Some fs
some_if true fs is = refl
some_if false fs is = absurd (both_ways false refl is)

none_if : (b : Bool) (fs : List Pair) → b ≡ false → (if b then Some fs else None) ≡ None
none_if true fs is = absurd (both_ways true is refl)
none_if false fs is = refl

-- what a field that passes is
record Passes (name value : List ℕ) : Type 0 where
  token : IsToken name
  own : is_own_value value ≡ true
  short : length value ≤ 8192

passes : (name value : List ℕ) → is_field (name, value) ≡ true → Passes name value
passes name value is =
    let outer = and_parts ((nat_le 1 (length name) && list_all is_token_byte name) && is_own_value value) (nat_le (length value) 8192) is in
    let inner = and_parts (nat_le 1 (length name) && list_all is_token_byte name) (is_own_value value) outer.0 in
    let first = and_parts (nat_le 1 (length name)) (list_all is_token_byte name) inner.0 in
    let some = leb-true 1 (length name) first.0 in
    record {
      token = (omega (arith, some), AllPass-from_list_all is_token_byte name first.1);
      own = inner.1;
      short = leb-true (length value) 8192 outer.1;
    }

are_within : (fs : List Pair) → are_within_limits fs ≡ true → IsWithinLimits fs
are_within fs is =
    let parts = and_parts (nat_le (length fs) 64) (nat_le (size_of fs) 32768) is in
    record { few = leb-true (length fs) 64 parts.0; small = leb-true (size_of fs) 32768 parts.1 }

-- an allowed field is taken where all are within the limits
pub with_allowed : (fs : List Pair) (name value : List ℕ) → IsAllowed fs name value → IsWithinLimits (put fs name value) →
    with_field fs (name, value) ≡ Some (put fs name value)
with_allowed fs name value allowed within =
    let token = allowed.is_name in
    let some : nat_le 1 (length name) ≡ true = le-leb 1 (length name) (omega (arith, token.0)) in
    let name_is = and_from (nat_le 1 (length name)) (list_all is_token_byte name) some (list_all-from_AllPass is_token_byte name token.1) in
    let both = and_from (nat_le 1 (length name) && list_all is_token_byte name) (is_own_value value) name_is allowed.is_value in
    let is = and_from ((nat_le 1 (length name) && list_all is_token_byte name) && is_own_value value) (nat_le (length value) 8192) both
    (le-leb (length value) 8192 allowed.is_short) in
    let few = and_from (nat_le (length (put fs name value)) 64) (nat_le (size_of (put fs name value)) 32768)
    (le-leb (length (put fs name value)) 64 within.few) (le-leb (size_of (put fs name value)) 32768 within.small) in
    some_if (is_field (name, value) && are_within_limits (put fs name value)) (put fs name value)
    (and_from (is_field (name, value)) (are_within_limits (put fs name value)) is few)

-- past the limits none is
pub with_beyond : (fs : List Pair) (name value : List ℕ) → (IsWithinLimits (put fs name value) → ⊥) → with_field fs (name, value) ≡ None
with_beyond fs name value beyond =
    none_if (is_field (name, value) && are_within_limits (put fs name value)) (put fs name value)
    (never_true _ (λ is. beyond (are_within (put fs name value) (and_parts (is_field (name, value)) (are_within_limits (put fs name value)) is).1)))

-- nor one that fails the test
with_no_field : (fs : List Pair) (name value : List ℕ) → (Passes name value → ⊥) → with_field fs (name, value) ≡ None
with_no_field fs name value lacking =
    none_if (is_field (name, value) && are_within_limits (put fs name value)) (put fs name value)
    (never_true _ (λ is. lacking (passes name value (and_parts (is_field (name, value)) (are_within_limits (put fs name value)) is).0)))

-- nor one that is refused
pub with_refused : (e : FieldError) (fs : List Pair) (name value : List ℕ) → Refuses e fs name value → with_field fs (name, value) ≡ None
with_refused error.BadName fs name value lacking = with_no_field fs name value (λ is. lacking is.token)
with_refused error.BadValue fs name value lacking = with_no_field fs name value (λ is. both_ways (is_own_value value) lacking.1 is.own)
with_refused error.TooMany fs name value lacking =
    let more = length-put (lowercase name) value fs in
    with_beyond fs name value (λ is. omega (arith, is.few, more, lacking.2))
with_refused error.TooLong fs name value lacking =
    let more = size_of-put (lowercase name) value fs in
    let same = length-lowercase name in
    elim lacking.3 [
      | inl long ↦ with_no_field fs name value (λ is. omega (arith, is.short, long))
      | inr large ↦ with_beyond fs name value (λ is. omega (arith, is.small, more, same, large))
    ]
with_refused error.NoMemory fs name value lacking = absurd lacking

-- a line is its field
pub line_is : (fs : List Pair) (line : List ℕ) (field : Pair) → field_parts line ≡ Some field → line_behind fs line ≡ with_field fs field
unfolding line_behind
line_is fs line field is = ap (λ (parts : Option Pair). parts >>= (λ f. with_field fs f)) is
