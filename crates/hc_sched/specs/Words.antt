-- Words of a line, and steps that may fail.
use Rattle.hc_text.specs.Texts.{cut}
use Rattle.std.specs.Prelude.{ℕ, ◌+◌, ◌^◌, ◌==◌, ◌&&◌, nat_lt, nat_le, List, length, take, drop, bytes_eq, position, Option, Some, None, option_map, if◌then◌else◌}
use Rattle.std.specs.Fmt.{decimal}
use Rattle.std.specs.Str.Parse.{digits_value}

-- `?`
infixl 10 ◌>>=◌
abbrev pub ◌>>=◌ : {A B : Type 0} → Option A → (A → Option B) → Option B
None >>= f = None
Some x >>= f = f x

-- what f makes of a value, and else other
abbrev pub or_else : {A B : Type 0} → Option A → (A → B) → B → B
or_else None f other = other
or_else (Some x) f other = f x

-- the number whose plain decimal the text is
unfoldable pub plain_of : List ℕ → Option ℕ
plain_of text =
    let n = digits_value 10 text in
    if nat_lt n (2 ^ 62) && bytes_eq text (decimal n) then Some n else None

-- the number from low to high whose plain decimal the text is
unfoldable pub plain_within : ℕ → ℕ → List ℕ → Option ℕ
plain_within low high text = do
  n ← plain_of text
  if nat_le low n && nat_le n high then Some n else None

-- the number that the words begin with, and what stands behind its space
unfoldable pub number_and_rest : List ℕ → Option (ℕ × List ℕ)
number_and_rest words = do
  parts ← cut 32 words
  n ← plain_of parts.0
  Some (n, parts.1)
