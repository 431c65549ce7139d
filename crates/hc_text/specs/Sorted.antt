-- Lists whose numbers rise.
use Rattle.std.specs.Prelude.{ℕ, ◌==◌, ◌&&◌, nat_lt, nat_le, not, Bool, true, List, [], ◌∷◌, if◌then◌else◌, Option, map, filter, find}
use Rattle.std.specs.List.{list_any, position_or_len}

module _ {X : Type 0} (number : X → ℕ) where
  -- the numbers are above n, and rise
  abbrev pub above : ℕ → List X → Bool
  above n [] = true
  above n (x ∷ xs) = nat_lt n (number x) && above (number x) xs

  -- the numbers rise
  abbrev pub is_sorted : List X → Bool
  is_sorted [] = true
  is_sorted (x ∷ xs) = above (number x) xs

  abbrev pub is_at : ℕ → X → Bool
  is_at n x = number x == n

  -- one has this number
  abbrev pub has : ℕ → List X → Bool
  has n xs = list_any (is_at n) xs

  -- the one with this number
  abbrev pub item_with : ℕ → List X → Option X
  item_with n xs = find (is_at n) xs

  -- one more, before those with higher numbers
  abbrev pub with_item : X → List X → List X
  with_item x [] = x ∷ []
  with_item x (y ∷ ys) = if nat_le (number x) (number y) then x ∷ y ∷ ys else y ∷ with_item x ys

  -- all but that with this number
  abbrev pub without : ℕ → List X → List X
  without n xs = filter (λ x. not (is_at n x)) xs

  -- another in place of that with its number
  abbrev pub with_replacement : X → List X → List X
  with_replacement x xs = map (λ y. if is_at (number x) y then x else y) xs

  -- the first whose number isn't below n
  abbrev pub place : ℕ → List X → ℕ
  place n xs = position_or_len (λ x. nat_le n (number x)) xs

-- a number, which is in order by itself
abbrev pub itself : ℕ → ℕ
itself n = n

-- a number is one of these
abbrev pub is_among : ℕ → List ℕ → Bool
is_among n numbers = has itself n numbers
