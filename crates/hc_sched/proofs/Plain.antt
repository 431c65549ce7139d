-- Plain numbers.
use Rattle.std.{proofs.{Common.{◌≡◌, ℕ, ◌^◌, ◌<◌, ◌≤◌, length, Bool, true, not, ◌&&◌, ◌==◌, List, [], ◌∷◌, Option, Some, None, refl, sym, ap, ◌∙◌, inl, inr, arith, lt-ltb}, lemmas.{Bool.{cases_Bool, and_parts, ltb-true, ne_eqb}, Fmt.{decimal_is_IsNumeral, length-decimal-le}, Slice.Eq.{bytes_eq-Decides}}}, specs.{Prelude.{IfSome, OnSome, IfNone, bytes_eq, nat_lt}, Fmt.{decimal}, Str.Parse.{digits_value, AllDigits}}}
use Rattle.hc_text.specs.Numbers.{IsPlain}
use Rattle.hc_sched.specs.Words.{plain_of}
use Rattle.hc_text.proofs.Cutting.{none_or_some}

abbrev is_plain : List ℕ → Bool
is_plain text = nat_lt (digits_value 10 text) (2 ^ 62) && bytes_eq text (decimal (digits_value 10 text))

-- a plain decimal is read as its number
pub plain_of-decimal : (text : List ℕ) (n : ℕ) → IsPlain text n → plain_of text ≡ Some n
unfolding plain_of
plain_of-decimal text n h =
    let value : digits_value 10 text ≡ n = ap (digits_value 10) h.1 ∙ (decimal_is_IsNumeral n (omega (arith, h.0))).1 in
    simp (value, lt-ltb n (2 ^ 62) h.0, (bytes_eq-Decides text (decimal n)).1 h.1) refl

-- what is read is the number of a plain decimal
pub IsPlain-plain_of : (text : List ℕ) (n : ℕ) → plain_of text ≡ Some n → IsPlain text n
unfolding plain_of
IsPlain-plain_of text n h =
    elim (cases_Bool (is_plain text)) [
      | inl plain ↦
          let parts = and_parts (nat_lt (digits_value 10 text) (2 ^ 62)) (bytes_eq text (decimal (digits_value 10 text))) plain in
          let is : digits_value 10 text ≡ n = cc (rw plain at h) in
          let same = (bytes_eq-Decides text (decimal (digits_value 10 text))).0 parts.1 in
          (rw is at (ltb-true (digits_value 10 text) (2 ^ 62) parts.0), rw is at same)
      | inr other ↦ cc (rw other at h)
    ]

-- `read_plain` reads it
pub plain_of_is : (text : List ℕ) (r : Option ℕ) → IfSome r (IsPlain text) → IfNone r ((n : ℕ) → ¬ (IsPlain text n)) → r ≡ plain_of text
plain_of_is text (Some n) found none = sym (plain_of-decimal text n found)
plain_of_is text None found none =
    elim (none_or_some (plain_of text)) [
      | inl e ↦ sym e
      | inr some ↦ absurd (none some.0 (IsPlain-plain_of text some.0 some.1))
    ]

pub AllDigits-decimal : (n : ℕ) → n < 2 ^ 62 → AllDigits 10 (decimal n)
AllDigits-decimal n h = (decimal_is_IsNumeral n (omega (arith, h))).0.1

not_same : (c b : ℕ) → b < c → not (c == b) ≡ true
not_same c b h = rw (ne_eqb c b (λ e. omega (arith, e, h))) refl

-- such a number has at most 19 digits
pub plain-short : (text : List ℕ) (n : ℕ) → IsPlain text n → length text ≤ 19
plain-short text n h = rw h.1 (length-decimal-le 19 n (omega arith) (omega (arith, h.0)) (omega (arith, h.0)))

pub plain_short : (text : List ℕ) (r : Option ℕ) → IfSome r (IsPlain text) → OnSome r (length text ≤ 19)
plain_short text (Some n) h = plain-short text n h
plain_short text None h = tt
