-- The size that a chunk line announces, by equations (RFC 9112 section 7.1).
use Rattle.std.specs.Prelude.{ℕ, ◌-◌, ◌^◌, ◌==◌, ◌&&◌, nat_lt, nat_le, Bool, true, List, [], ◌∷◌, length, take, drop, bytes_eq, Option, Some, None, if◌then◌else◌}
use Rattle.std.specs.List.{list_all, prefix_len}
use Rattle.std.specs.Char.{is_ascii_hexdigit}
use Rattle.std.specs.Str.Parse.{digits_value}
use Rattle.httparse.specs.Grammar.{is_ows, is_extension_byte}
use Rattle.hc_msg.specs.Chunks.{LineSays}

-- the hexadecimal digits at the beginning, and what stands behind them and behind blanks
abbrev pub digits_in : List ℕ → List ℕ
digits_in text = take (prefix_len is_ascii_hexdigit text) text

abbrev pub behind_digits : List ℕ → List ℕ
behind_digits text = drop (prefix_len is_ascii_hexdigit text) text

abbrev pub behind_pad : List ℕ → List ℕ
behind_pad text = drop (prefix_len is_ows text) text

-- nothing, or an extension
abbrev pub is_extension : List ℕ → Bool
is_extension [] = true
is_extension (b ∷ text) = b == 59 && list_all is_extension_byte text

-- a size of at most 16 digits below 2^62, blanks, an extension and the end of the line
abbrev pub is_chunk_line : List ℕ → List ℕ → Bool
is_chunk_line text end =
    bytes_eq end (13 ∷ 10 ∷ []) && nat_lt 0 (length (digits_in text)) && nat_le (length (digits_in text)) 16
    && is_extension (behind_pad (behind_digits text)) && nat_lt (digits_value 16 (digits_in text)) (2 ^ 62)

-- by the line without its end, and that end
abbrev pub size_by : List ℕ → List ℕ → Option ℕ
size_by text end = if is_chunk_line text end then Some (digits_value 16 (digits_in text)) else None

-- the size that a whole line announces
unfoldable pub size_in : List ℕ → Option ℕ
size_in line = size_by (take (length line - 2) line) (drop (length line - 2) line)

-- the equations say what the grammar says, of every text
abbrev pub IsSaidByEquations : Type 0
IsSaidByEquations = (text : List ℕ) → LineSays text (size_in text)
