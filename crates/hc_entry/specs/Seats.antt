-- The seats of a line's consumers: where each stands, and its place.
use Rattle.std.specs.Prelude.{◌≡◌, ℕ, ◌<◌, Bool, true, false, List, [], ◌∷◌, length, if◌then◌else◌, Option, Some, None, nat_eq}
use Rattle.std.specs.Map.{lookup, keys_of}
use Rattle.std.specs.List.{IsDistinct}
use Rattle.hc_text.specs.Sorted.{with_item, itself, is_among}
use Rattle.hc_entry.specs.declared.seat.Seated.{Seated}
use Rattle.hc_entry.specs.declared.seat.Stand.{Stand}
use Rattle.hc_entry.specs.declared.seat.Stand.TheVariants as stand
use Rattle.hc_entry.specs.Tournaments.{at}
use Rattle.hc_entry.specs.Lines.{Line, stands, line_after_pass, gone_away, come_back}

abbrev pub is_same_stand : Stand → Stand → Bool
is_same_stand stand.InLine stand.InLine = true
is_same_stand stand.Passed stand.Passed = true
is_same_stand stand.Away stand.Away = true
is_same_stand other another = false

-- a consumer that stands there, if that is in line
abbrev pub called_at : Stand → ℕ → Option ℕ
called_at s c = if is_same_stand s stand.InLine then Some c else None

-- the line once one stands there
abbrev pub moved_to : Stand → ℕ → Line → Line
moved_to stand.InLine c l = come_back c l
moved_to stand.Passed c l = line_after_pass c l
moved_to stand.Away c l = gone_away c l

-- where one stands
abbrev pub stand_in : ℕ → Line → Option Stand
stand_in c l =
    if is_among c l.in_line then Some stand.InLine
    else if is_among c l.passed then Some stand.Passed
    else if is_among c l.away then Some stand.Away
    else None

abbrev pub seat_of : List (ℕ × Seated) → ℕ → Option Seated
seat_of seats c = lookup (nat_eq c) seats

-- those who stand there, by number
abbrev pub standing : Stand → List (ℕ × Seated) → List ℕ
standing s [] = []
standing s (e ∷ es) = if is_same_stand e.1.stand s then with_item itself e.0 (standing s es) else standing s es

abbrev pub called_from : ℕ → Option Seated → Option ℕ
called_from c None = None
called_from c (Some seat) = called_at seat.stand c

-- who is in line at a place
abbrev pub seat_in_line : List (ℕ × Seated) → Option ℕ → Option ℕ
seat_in_line seats None = None
seat_in_line seats (Some c) = called_from c (seat_of seats c)

-- Each consumer has one place, each place in use one consumer; those in line play, and who holds the turn is in line.
pub record IsSeated (seats : List (ℕ × Seated)) (places playing : List (Option ℕ)) (holder : Option ℕ) : Type 0 where
  pub distinct : IsDistinct nat_eq (keys_of seats)
  pub placed : (c : ℕ) (seat : Seated) → seat_of seats c ≡ Some seat → at places seat.place ≡ Some c
  pub seated : (k c : ℕ) → at places k ≡ Some c → (seat : Seated) × (seat_of seats c ≡ Some seat) × (seat.place ≡ k)
  pub plays : (k : ℕ) → at playing k ≡ seat_in_line seats (at places k)
  pub room : (k c : ℕ) → at places k ≡ Some c → k < length playing
  pub holds : stands holder (standing stand.InLine seats) ≡ true
