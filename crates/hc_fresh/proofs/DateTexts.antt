-- How long the text of a date is.
use Rattle.std.{proofs.Common.{◌≡◌, ◌⊎◌, ℕ, ◌≤◌, ◌<◌, ◌-◌, List, [], ◌∷◌, ◌++◌, length, get_or, inl, inr, arith, length-append, refl, zero, suc, ◌+◌}, specs.Prelude.{codes}}
use Rattle.httpdate.specs.{declared.{parts.Parts.{Parts}, date.HttpDate.{HttpDate}}, Date.{IsDateText}, Text.{asctime_date, day_name, day_name_rest, digit_zero, imf_fixdate, month_name, rfc850_date, space, two_digits}}

-- no text of a list is longer than this
abbrev AreShort : ℕ → List (List ℕ) → Type 0
AreShort n [] = Unit {0}
AreShort n (t ∷ ts) = (length t ≤ n) × AreShort n ts

short_at : (n : ℕ) (ts : List (List ℕ)) (i : ℕ) → AreShort n ts → length (get_or ts i []) ≤ n
short_at n [] i are = omega arith
short_at n (t ∷ ts) zero are = are.0
short_at n (t ∷ ts) (suc i) are = short_at n ts i are.1

abbrev days : List (List ℕ)
days = codes "Mon" ∷ codes "Tue" ∷ codes "Wed" ∷ codes "Thu" ∷ codes "Fri" ∷ codes "Sat" ∷ codes "Sun" ∷ []

short-days : AreShort 3 days
short-days = (omega arith, (omega arith, (omega arith, (omega arith, (omega arith, (omega arith, (omega arith, tt)))))))

length-day_name : (n : ℕ) → length (day_name n) ≤ 3
length-day_name n = short_at 3 days (n - 1) short-days

abbrev days_ends : List (List ℕ)
days_ends = codes "day" ∷ codes "sday" ∷ codes "nesday" ∷ codes "rsday" ∷ codes "day" ∷ codes "urday" ∷ codes "day" ∷ []

short-days_ends : AreShort 6 days_ends
short-days_ends = (omega arith, (omega arith, (omega arith, (omega arith, (omega arith, (omega arith, (omega arith, tt)))))))

length-day_name_rest : (n : ℕ) → length (day_name_rest n) ≤ 6
length-day_name_rest n = short_at 6 days_ends (n - 1) short-days_ends

abbrev months : List (List ℕ)
months = codes "Jan" ∷ codes "Feb" ∷ codes "Mar" ∷ codes "Apr" ∷ codes "May" ∷ codes "Jun" ∷ codes "Jul" ∷ codes "Aug" ∷ codes "Sep" ∷ codes "Oct" ∷
    codes "Nov" ∷ codes "Dec" ∷ []

short-months : AreShort 3 months
short-months = (
  omega arith,
  (
    omega arith,
    (
      omega arith,
      (omega arith, (omega arith, (omega arith, (omega arith, (omega arith, (omega arith, (omega arith, (omega arith, (omega arith, tt))))))))),
    ),
  ),
)

length-month_name : (n : ℕ) → length (month_name n) ≤ 3
length-month_name n = short_at 3 months (n - 1) short-months

length-imf_fixdate : (p : Parts) → length (imf_fixdate p) ≤ 33
length-imf_fixdate p = simp (length-append) (omega (arith, length-day_name p.wday, length-month_name p.mon))

length-rfc850_date : (p : Parts) → length (rfc850_date p) ≤ 33
length-rfc850_date p = simp (length-append) (omega (arith, length-day_name p.wday, length-day_name_rest p.wday, length-month_name p.mon))

length-asctime_date : (day : List ℕ) (p : Parts) → length day ≡ 2 → length (asctime_date day p) ≤ 33
length-asctime_date day p two = simp (length-append) (omega (arith, two, length-day_name p.wday, length-month_name p.mon))

pub length-date : (text : List ℕ) (d : HttpDate) → IsDateText text d → length text ≤ 33
length-date text d is = elim is [
  | inl imf ↦ rw imf (length-imf_fixdate d.parts)
  | inr (inl rfc850) ↦ rw rfc850.0 (length-rfc850_date d.parts)
  | inr (inr (inl two)) ↦ rw two (length-asctime_date (two_digits d.parts.day) d.parts refl)
  | inr (inr (inr one)) ↦ rw one.0 (length-asctime_date (space ∷ (digit_zero + d.parts.day) ∷ []) d.parts refl)
]
