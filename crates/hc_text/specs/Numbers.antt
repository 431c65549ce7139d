-- Numbers in decimal.
use Rattle.std.specs.Prelude.{◌≡◌, ℕ, ◌<◌, ◌≤◌, ◌^◌, List, length}
use Rattle.std.specs.Fmt.{decimal}
use Rattle.std.specs.Str.Parse.{IsNumeral, digits_value}

-- the text is the plain decimal of n, which is below 2 ^ 62
abbrev pub IsPlain : List ℕ → ℕ → Type 0
IsPlain text n = (n < 2 ^ 62) × (text ≡ decimal n)

-- the text is 1 to 20 digits, leading zeros among them, with the value n below 2 ^ 62
abbrev pub IsNumber : List ℕ → ℕ → Type 0
IsNumber text n = (n < 2 ^ 62) × IsNumeral 10 text × (length text ≤ 20) × (digits_value 10 text ≡ n)
