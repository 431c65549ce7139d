-- The bytes of a piece, as a schedule spells them.
use Rattle.std.specs.Prelude.{ℕ, ◌==◌, ◌&&◌, ◌||◌, ◌%◌, nat_le, Bool, List, [], ◌∷◌, length, codes, bytes_eq, if◌then◌else◌}
use Rattle.std.specs.List.{list_all}
use Rattle.std.specs.Result.{result_unwrap_or}
use Rattle.hex.specs.Hex.{decode_of, encode_lower}

-- bytes in lower-case hexadecimal, or a hyphen for none
abbrev pub piece_text : List ℕ → List ℕ
piece_text [] = codes "-"
piece_text (b ∷ bytes) = encode_lower (b ∷ bytes)

abbrev pub is_lower_digit : ℕ → Bool
is_lower_digit b = (nat_le 48 b && nat_le b 57) || (nat_le 97 b && nat_le b 102)

-- lower-case hexadecimal of 1 to 65,536 bytes
unfoldable pub is_hex_text : List ℕ → Bool
is_hex_text text =
    nat_le 2 (length text) && nat_le (length text) 131072 && length text % 2 == 0
    && list_all is_lower_digit text

-- the text of a piece
unfoldable pub is_piece_text : List ℕ → Bool
is_piece_text text = bytes_eq text (codes "-") || is_hex_text text

-- the bytes of such a text
unfoldable pub bytes_of : List ℕ → List ℕ
bytes_of text = if bytes_eq text (codes "-") then [] else (result_unwrap_or (decode_of text) [])
