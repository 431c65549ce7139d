-- Counts that stand still at their end.
use Rattle.std.{proofs.{Common.{◌≡◌, ℕ, ◌+◌, ◌<◌, List, length, take, get_or, arith}, lemmas.List.Sums.{sum_by_more}}, specs.List.{sum_by}}
use Rattle.hc_generate.specs.Summary.{up_to_end}

-- the sum of some first items and of one more
pub one_more : {X : Type 0} (f : X → ℕ) (xs : List X) (i : ℕ) (d : X) → i < length xs
    → up_to_end (up_to_end (sum_by f (take i xs)) + f (get_or xs i d)) ≡ up_to_end (sum_by f (take (i + 1) xs))
one_more f xs i d h = omega (arith, sum_by_more f xs i d h)
