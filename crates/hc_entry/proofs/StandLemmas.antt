-- Who stands where in a line, and at which seat.
use Rattle.std.{proofs.{Common.{◌≡◌, ℕ, suc, ◌+◌, ◌<◌, List, [], ◌∷◌, length, Bool, true, false, eqb, Option, Some, None, refl, sym, ap, ◌∙◌, inl, inr, arith}, lemmas.{Bool.{cases_lt, eq-eqb, ne_eqb}, List.{get_or_past}}}, specs.{Prelude.{nat_eq, if◌then◌else◌}, Map.{keys_of}, List.{IsDistinct}}}
use Rattle.hc_text.specs.Sorted.{with_item, itself, is_among}
use Rattle.hc_entry.specs.{declared.seat.{Seated.{Seated}, Stand.{Stand}}, Tournaments.{at}, Seats.{is_same_stand, seat_of, standing, stand_in, IsSeated}, Lines.{is_empty, stands, IsOrderly}}
use Rattle.hc_entry.specs.declared.seat.Stand.TheVariants as stand
use Rattle.hc_entry.proofs.{SeatLemmas.{among-standing, standing-is_sorted, stands_at, line_of}, OrderLemmas.{length-with}}

abbrev pub stand_of : Option Seated → Option Stand
stand_of None = None
stand_of (Some seat) = Some seat.stand

-- one stands where its seat says
pub stand-seat : (c : ℕ) (es : List (ℕ × Seated)) (places : List (Option ℕ)) (h : Option ℕ) → IsDistinct nat_eq (keys_of es)
    → stand_in c (line_of es places h) ≡ stand_of (seat_of es c)
stand-seat c es places h up =
    rw (among-standing stand.InLine c es up, among-standing stand.Passed c es up, among-standing stand.Away c es up) (by_seat (seat_of es c)) where
      by_seat : (o : Option Seated) → (if stands_at stand.InLine o then Some stand.InLine else if stands_at stand.Passed o then Some stand.Passed
          else if stands_at stand.Away o then Some stand.Away else None) ≡ stand_of o
      by_seat None = refl
      by_seat (Some seat) = each seat.stand where
        each : (s : Stand) → (if is_same_stand s stand.InLine then Some stand.InLine else if is_same_stand s stand.Passed then Some stand.Passed
            else if is_same_stand s stand.Away then Some stand.Away else None) ≡ Some s
        each stand.InLine = refl
        each stand.Passed = refl
        each stand.Away = refl

-- there are as many consumers as seats that are taken
pub count-standing : (es : List (ℕ × Seated)) →
    length (standing stand.InLine es) + length (standing stand.Passed es) + length (standing stand.Away es) ≡ length es
count-standing [] = refl
count-standing (e ∷ es) = each e.1.stand (count-standing es) where
  each : (s : Stand) → length (standing stand.InLine es) + length (standing stand.Passed es) + length (standing stand.Away es) ≡ length es
      → length (if is_same_stand s stand.InLine then with_item itself e.0 (standing stand.InLine es) else standing stand.InLine es)
      + length (if is_same_stand s stand.Passed then with_item itself e.0 (standing stand.Passed es) else standing stand.Passed es)
      + length (if is_same_stand s stand.Away then with_item itself e.0 (standing stand.Away es) else standing stand.Away es) ≡ suc (length es)
  each stand.InLine tail = let h = length-with e.0 (standing stand.InLine es) in omega arith
  each stand.Passed tail = let h = length-with e.0 (standing stand.Passed es) in omega arith
  each stand.Away tail = let h = length-with e.0 (standing stand.Away es) in omega arith

pub empty-seats : (es : List (ℕ × Seated)) (places : List (Option ℕ)) (h : Option ℕ) → eqb (length es) 0 ≡ is_empty (line_of es places h)
empty-seats es places h = ap (λ (n : ℕ). eqb n 0) (sym (count-standing es))

-- nobody holds the turn of a line without seats
pub free-seats : (es : List (ℕ × Seated)) (h : Option ℕ) → es ≡ [] → stands h (standing stand.InLine es) ≡ true → h ≡ None
free-seats es None none in_line = refl
free-seats es (Some d) none in_line = let out = ap (λ (x : List (ℕ × Seated)). is_among d (standing stand.InLine x)) none in absurd (cc)

pub no-entries : (es : List (ℕ × Seated)) → length es ≡ 0 → es ≡ []
no-entries [] e = refl
no-entries (x ∷ xs) e = absurd (omega arith)

pub test-zero : (r : Bool) (n : ℕ) → (r ≡ true → n ≡ 0) → (n ≡ 0 → r ≡ true) → r ≡ eqb n 0
test-zero true n on back = sym (eq-eqb n 0 (on refl))
test-zero false n on back = sym (ne_eqb n 0 (λ e. let h = back e in absurd (cc)))

pub place-within : (xs : List (Option ℕ)) (i d : ℕ) → at xs i ≡ Some d → i < length xs
place-within xs i d has = elim (cases_lt i (length xs)) [
  | inl within ↦ within
  | inr past ↦ let none = get_or_past xs i None past in absurd (cc)
]

-- the lists of a seated line rise, and nobody stands in two of them
pub orderly-seated : (es : List (ℕ × Seated)) (places playing : List (Option ℕ)) (h : Option ℕ) → IsSeated es places playing h → IsOrderly (line_of es places h)
orderly-seated es places playing h was = record {
  in_line = standing-is_sorted stand.InLine es was.distinct;
  passed = standing-is_sorted stand.Passed es was.distinct;
  away = standing-is_sorted stand.Away es was.distinct;
  in_line_or_passed = λ c is. apart stand.InLine stand.Passed (λ s on. in_line_passed s on) c is;
  in_line_or_away = λ c is. apart stand.InLine stand.Away (λ s on. in_line_away s on) c is;
  passed_or_away = λ c is. apart stand.Passed stand.Away (λ s on. passed_away s on) c is;
  holder = was.holds;
} where
  apart : (s t : Stand) → ((x : Stand) → is_same_stand x s ≡ true → is_same_stand x t ≡ false) → (c : ℕ) → is_among c (standing s es) ≡ true →
      is_among c (standing t es) ≡ false
  apart s t off c is = among-standing t c es was.distinct ∙ other (seat_of es c) (sym (among-standing s c es was.distinct) ∙ is) where
    other : (o : Option Seated) → stands_at s o ≡ true → stands_at t o ≡ false
    other None none = refl
    other (Some seat) on = off seat.stand on

  in_line_passed : (x : Stand) → is_same_stand x stand.InLine ≡ true → is_same_stand x stand.Passed ≡ false
  in_line_passed stand.InLine on = refl
  in_line_passed stand.Passed on = absurd (cc)
  in_line_passed stand.Away on = refl

  in_line_away : (x : Stand) → is_same_stand x stand.InLine ≡ true → is_same_stand x stand.Away ≡ false
  in_line_away stand.InLine on = refl
  in_line_away stand.Passed on = refl
  in_line_away stand.Away on = absurd (cc)

  passed_away : (x : Stand) → is_same_stand x stand.Passed ≡ true → is_same_stand x stand.Away ≡ false
  passed_away stand.InLine on = refl
  passed_away stand.Passed on = refl
  passed_away stand.Away on = absurd (cc)
