-- The elements of a list (RFC 9110 section 5.6.1), as a recipient reads it.
use Rattle.std.specs.Prelude.{◌≡◌, ℕ, ◌==◌, ◌||◌, not, Bool, false, if◌then◌else◌, List, [], ◌∷◌, ◌++◌, map, filter, reverse, length}

abbrev pub comma : ℕ
comma = 44

abbrev pub quote : ℕ
quote = 34

abbrev pub backslash : ℕ
backslash = 92

-- a space or a tab
abbrev pub is_blank : ℕ → Bool
is_blank b = b == 32 || b == 9

-- where a byte stands: outside quoted strings, within one, or within one after the backslash that takes it along
pub data Place : Type 0 where
  Outside : Place
  Within : Place
  Taken : Place

-- where the byte after this one stands
abbrev pub after : Place → ℕ → Place
after Outside b = if b == quote then Within else Outside
after Within b = if b == quote then Outside else (if b == backslash then Taken else Within)
after Taken b = Within

-- a comma outside quoted strings
abbrev pub separates : Place → ℕ → Bool
separates Outside b = b == comma
separates Within b = false
separates Taken b = false

-- the pieces, the first of them with these bytes in front
abbrev pub begin_with : List ℕ → List (List ℕ) → List (List ℕ)
begin_with bytes [] = bytes ∷ []
begin_with bytes (piece ∷ pieces) = (bytes ++ piece) ∷ pieces

-- the pieces of a text that is cut at each comma outside quoted strings; a quote that is never closed runs to the end
abbrev pub cut_pieces : Place → List ℕ → List (List ℕ)
cut_pieces place [] = [] ∷ []
cut_pieces place (b ∷ text) =
    if separates place b then [] ∷ cut_pieces Outside text else begin_with (b ∷ []) (cut_pieces (after place b) text)

-- where a text ends that begins in this place
abbrev pub place_after : Place → List ℕ → Place
place_after place [] = place
place_after place (b ∷ text) = place_after (after place b) text

-- no comma of the text stands outside quoted strings
abbrev pub NoneSeparates : Place → List ℕ → Type 0
NoneSeparates place [] = Unit {0}
NoneSeparates place (b ∷ text) = (separates place b ≡ false) × NoneSeparates (after place b) text

-- Pieces of a text, of which the first begins in this place: no comma of a piece stands outside quoted strings,
-- and each piece but the last ends outside them.
abbrev pub ArePieces : Place → List (List ℕ) → Type 0
ArePieces place [] = ⊥
ArePieces place (piece ∷ []) = NoneSeparates place piece
ArePieces place (piece ∷ next ∷ pieces) = NoneSeparates place piece × (place_after place piece ≡ Outside) × ArePieces Outside (next ∷ pieces)

-- the text from its first byte on that is no blank
abbrev pub skip_blanks : List ℕ → List ℕ
skip_blanks [] = []
skip_blanks (b ∷ text) = if is_blank b then skip_blanks text else b ∷ text

-- the text without the blanks at its end
abbrev pub trim_end : List ℕ → List ℕ
trim_end text = reverse (skip_blanks (reverse text))

-- the text without the blanks at both ends
abbrev pub trimmed_text : List ℕ → List ℕ
trimmed_text text = trim_end (skip_blanks text)

-- the pieces, trimmed, without the empty ones
abbrev pub elements_of : List (List ℕ) → List (List ℕ)
elements_of pieces = filter (λ piece. not (length piece == 0)) (map trimmed_text pieces)

-- the elements of a text
unfoldable pub elements : List ℕ → List (List ℕ)
elements text = elements_of (cut_pieces Outside text)
