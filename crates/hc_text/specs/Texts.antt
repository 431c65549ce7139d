-- Texts and small numbers.
use Rattle.std.specs.Prelude.{ℕ, ◌<◌, ◌^◌, ◌==◌, Bool, not, List, ◌+◌, length, take, drop, bytes_eq, position, Option, Some, None, option_map, if◌then◌else◌}
use Rattle.std.specs.List.{list_all}

-- A text that is cut at the first of some byte, or behind a prefix.

-- the text up to the first b, and the text behind it
unfoldable pub cut : ℕ → List ℕ → Option (List ℕ × List ℕ)
cut b text = option_map (λ at. (take at text, drop (at + 1) text)) (position (λ x. x == b) text)

-- the text behind the prefix
unfoldable pub behind : List ℕ → List ℕ → Option (List ℕ)
behind prefix text =
    if bytes_eq (take (length prefix) text) prefix then Some (drop (length prefix) text) else None

-- numbers of texts are below this
abbrev pub IsSmall : ℕ → Type 0
IsSmall n = n < 2 ^ 62

-- the byte does not stand in the text
abbrev pub lacks : ℕ → List ℕ → Bool
lacks byte text = list_all (λ b. not (b == byte)) text
