-- Numbers at places, and the tournament that they play.
use Rattle.std.specs.Prelude.{◌≡◌, ◌≢◌, ℕ, ◌+◌, ◌<◌, ◌≤◌, min, List, length, Option, Some, None, slice_index_or}

-- the number at a place, if it has one
abbrev pub at : List (Option ℕ) → ℕ → Option ℕ
at numbers place = slice_index_or numbers place None

-- the lesser of the two, or the one that there is
abbrev pub lesser_of : Option ℕ → Option ℕ → Option ℕ
lesser_of None b = b
lesser_of (Some a) None = Some a
lesser_of (Some a) (Some b) = Some (min a b)

-- It is the number of a place, and none is lower; there is none only where no place has one.
pub record IsLeastAt (least : Option ℕ) (numbers : List (Option ℕ)) : Type 0 where
  pub there : (n : ℕ) → least ≡ Some n → (place : ℕ) × (at numbers place ≡ Some n)
  pub none_lower : (place n : ℕ) → at numbers place ≡ Some n → (m : ℕ) × (least ≡ Some m) × (m ≤ n)

-- Nodes 2 i and 2 i + 1 have played for node i, but for one i.
abbrev pub IsPlayedBut : ℕ → List (Option ℕ) → Type 0
IsPlayedBut but nodes =
    (i : ℕ) → 1 ≤ i → i + i < length nodes → i ≢ but → at nodes i ≡ lesser_of (at nodes (i + i)) (at nodes (i + i + 1))

-- they have played for each
abbrev pub IsPlayed : List (Option ℕ) → Type 0
IsPlayed nodes = IsPlayedBut 0 nodes

-- they have played for so many places
pub record IsTournament (nodes : List (Option ℕ)) (places : ℕ) : Type 0 where
  pub size : length nodes ≡ places + places
  pub played : IsPlayed nodes
