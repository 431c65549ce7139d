-- Pieces of bytes in a queue.
use Rattle.std.specs.Prelude.{◌≡◌, ℕ, ◌+◌, ◌≤◌, List, [], ◌∷◌, ◌++◌, length, take, drop}

-- all bytes, in order
abbrev pub bytes_of_pieces : List (List ℕ) → List ℕ
bytes_of_pieces [] = []
bytes_of_pieces (piece ∷ pieces) = piece ++ bytes_of_pieces pieces

abbrev pub first_length : List (List ℕ) → ℕ
first_length [] = 0
first_length (piece ∷ pieces) = length piece

-- so many bytes of the first piece are read, and so many are left in all
pub record IsCounted (pieces : List (List ℕ)) (read left : ℕ) : Type 0 where
  pub all : left + read ≡ length (bytes_of_pieces pieces)
  pub front : read ≤ first_length pieces

-- The first of these bytes are taken, and the others are left in the pieces, of whose first so many are read.
pub record TakesPrefix (count : ℕ) (all : List ℕ) (pieces : List (List ℕ)) (taken : List ℕ) (read : ℕ) : Type 0 where
  pub bytes : taken ≡ take count all
  pub rest : drop read (bytes_of_pieces pieces) ≡ drop count all
  pub front : read ≤ first_length pieces
