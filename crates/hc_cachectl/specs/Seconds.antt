-- Numbers of seconds in the arguments of directives.
use Rattle.std.specs.Prelude.{◌≡◌, ℕ, ◌+◌, ◌*◌, ◌^◌, ◌==◌, min, true, List, [], ◌∷◌, if◌then◌else◌, Option, Some, None}
use Rattle.std.specs.Option.{option_map, option_and_then}
use Rattle.std.specs.List.{list_all}
use Rattle.std.specs.Char.{is_ascii_digit, digit_value}
use Rattle.std.specs.Str.Parse.{digits_value}
use Rattle.hc_text.specs.Elements.{quote, backslash}

-- more seconds count as this many
abbrev pub most_seconds : ℕ
most_seconds = 2 ^ 31

-- the byte is a digit, and behind it the seconds are this many
abbrev pub GrowsBy : ℕ → ℕ → ℕ → Type 0
GrowsBy digit seconds more =
    (is_ascii_digit digit ≡ true) × (more ≡ min (seconds * 10 + digit_value digit) most_seconds)

-- one or more digits, however many
abbrev pub plain_seconds : List ℕ → Option ℕ
plain_seconds [] = None
plain_seconds (d ∷ ds) =
    if list_all is_ascii_digit (d ∷ ds) then Some (min (digits_value 10 (d ∷ ds)) most_seconds) else None

-- What a quoted string says, from behind its opening quote up to the quote that closes it, where that is the last byte.
-- A backslash stands before a byte that is taken as it is.
abbrev pub quoted_content : List ℕ → Option (List ℕ)
quoted_content [] = None
quoted_content (b ∷ []) = if b == quote then Some [] else None
quoted_content (b ∷ c ∷ text) =
    if b == quote then None else (
    if b == backslash then option_map (λ said. c ∷ said) (quoted_content text)
    else option_map (λ said. b ∷ said) (quoted_content (c ∷ text)))

-- the seconds that an argument tells, itself or within quotes
abbrev pub seconds_of : List ℕ → Option ℕ
seconds_of [] = None
seconds_of (b ∷ text) = if b == quote then option_and_then plain_seconds (quoted_content text) else plain_seconds (b ∷ text)
