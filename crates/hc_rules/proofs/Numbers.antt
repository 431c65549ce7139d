-- What is read as a number is one, and what isn't is none.
use Rattle.std.{proofs.{lemmas.{Bool.{cases_Bool, Decides.{nat_tests}}, Str.Parse.{IsNumeralModel, numerals_by_value, tells_all_ascii_digits}}, Common.{◌≡◌, ◌≢◌, ℕ, ◌<◌, ◌^◌, List, length, Bool, true, leb, ltb, Option, Some, None, refl, sym, arith, lt-ltb, inl, inr}}, specs.{Prelude.{◌&&◌, IfSome, IfNone}, Str.{all_ascii_digits, Parse.{digits_value}}}}
use Rattle.hc_text.specs.Numbers.{IsNumber}
use Rattle.hc_text.proofs.Basics.{le-leb, leb-le, ltb-lt}
use Rattle.hc_rules.specs.RangeTexts.{number_of}

digits : IsNumeralModel (λ ds. all_ascii_digits ds ≡ true) (digits_value 10)
digits = numerals_by_value _ tells_all_ascii_digits

abbrev is_number : List ℕ → Bool
is_number text = leb 1 (length text) && leb (length text) 20 && all_ascii_digits text && ltb (digits_value 10 text) (2 ^ 62)

-- a number is told
pub number_of-number : (text : List ℕ) (n : ℕ) → IsNumber text n → number_of text ≡ Some n
number_of-number text n found =
    let (small, numeral, short, value) = found in
    let some : leb 1 (length text) ≡ true = le-leb _ _ (let h : 0 < length text = numeral.0 in omega arith) in
    rw (some, le-leb _ _ short, digits.from text numeral.1, value, lt-ltb n (2 ^ 62) small) refl

-- what is told is a number
IsNumber-tests : (text : List ℕ) → is_number text ≡ true → IsNumber text (digits_value 10 text)
IsNumber-tests text is = grind (arith, nat_tests, leb-le, ltb-lt, digits.to)

pub IsNumber-reported : (text : List ℕ) (n : ℕ) → number_of text ≡ Some n → IsNumber text n
IsNumber-reported text n reported =
    elim (cases_Bool (is_number text)) [
      | inl is ↦ let e : Some (digits_value 10 text) ≡ Some n = rw is at reported in let same : digits_value 10 text ≡ n = cc in
          rw (← same) (IsNumber-tests text is)
      | inr isnt ↦ let e : None ≡ Some n = rw isnt at reported in absurd (cc)
    ]

pub number_of-read : (text : List ℕ) (r : Option ℕ) → IfSome r (IsNumber text) → IfNone r ((n : ℕ) → ¬ (IsNumber text n)) → r ≡ number_of text
number_of-read text (Some n) found none = sym (number_of-number text n found)
number_of-read text None found none =
    elim (cases_Bool (is_number text)) [
      | inl is ↦ absurd (none (digits_value 10 text) (IsNumber-tests text is))
      | inr isnt ↦ sym (rw isnt refl)
    ]
