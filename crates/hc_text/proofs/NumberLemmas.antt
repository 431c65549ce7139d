-- What the two words for numbers in decimal have to do with one another.
use Rattle.std.{proofs.{Common.{◌≡◌, ℕ, ◌<◌, ◌≤◌, ◌^◌, List, length, get_or, sym, ap, ◌∙◌, subst, inl, inr, arith, rules, true}, lemmas.{Bool.{cases_lt}, Fmt.{decimal_is_IsNumeral, decimal_digit, first_decimal, length-decimal-le, decimal-digits_value}, Str.Parse.{IsNumeralModel, numerals_by_value, tells_digits}}}, specs.{Char.{is_ascii_digit}, Fmt.{decimal}, List.{list_all}, Str.Parse.{AllDigits, digits_value}}}
use Rattle.hc_text.specs.Numbers.{IsPlain, IsNumber}

pub own : IsNumeralModel (AllDigits 10) (digits_value 10)
own = numerals_by_value _ tells_digits

pub IsNumber-decimal : (n : ℕ) → n < 2 ^ 62 → IsNumber (decimal n) n
IsNumber-decimal n small =
    let written = decimal_is_IsNumeral n (omega arith) in
    (small, written.0, length-decimal-le 20 n (omega arith) (omega arith) (omega arith), written.1)

pub IsNumber-plain : (text : List ℕ) (n : ℕ) → IsPlain text n → IsNumber text n
IsNumber-plain text n h = let P : List ℕ → Type 0 = λ t. IsNumber t n in subst P (sym h.1) (IsNumber-decimal n h.0)

-- no plain decimal begins with 0 and goes on
pub decimal_first : (n : ℕ) → n < 2 ^ 62 → get_or (decimal n) 0 0 ≡ 48 → length (decimal n) ≡ 1
decimal_first n small zero =
    elim (cases_lt 0 n) [
      | inl more ↦ let first = first_decimal n more (omega arith) in absurd (omega arith)
      | inr none ↦ ap length (decimal_digit n (omega arith))
    ]

pub plain_first : (text : List ℕ) (n : ℕ) → IsPlain text n → get_or text 0 0 ≡ 48 → length text ≡ 1
plain_first text n h = let P : List ℕ → Type 0 = λ t. get_or t 0 0 ≡ 48 → length t ≡ 1 in subst P (sym h.1) (decimal_first n h.0)

pub IsPlain-number : (text : List ℕ) (n : ℕ) → IsNumber text n → (get_or text 0 0 ≡ 48 → length text ≡ 1) → IsPlain text n
IsPlain-number text n h first =
    (h.0, sym (ap decimal (sym h.3) ∙ decimal-digits_value own text h.1.1 h.1.0 first (omega (arith, h.0, h.3))))

pub tested : IsNumeralModel (λ ds. list_all is_ascii_digit ds ≡ true) (digits_value 10)
tested = numerals_by_value _ (search rules)

pub tested-AllDigits : (text : List ℕ) → AllDigits 10 text → list_all is_ascii_digit text ≡ true
tested-AllDigits text h = tested.from text h

-- what has bytes that are digits alone, and not too many, is a number
pub IsNumber-tested : (text : List ℕ) (n : ℕ) → 0 < length text → length text ≤ 20 → list_all is_ascii_digit text ≡ true → n ≡ digits_value 10 text →
    n < 2 ^ 62 → IsNumber text n
IsNumber-tested text n some few all is small = (small, (some, tested.to text all), few, sym is)
