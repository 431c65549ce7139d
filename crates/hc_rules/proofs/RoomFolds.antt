-- How many give way, told one by one.
use Rattle.std.{proofs.Common.{◌≡◌, ℕ, ◌+◌, ◌≤◌, List, [], ◌∷◌, Option, Some, refl, arith}, specs.Prelude.{option_map}}
use Rattle.hc_text.proofs.Basics.{le-leb}
use Rattle.hc_rules.specs.Rooms.{gives_way}

-- where the sum fits, none gives way
pub none_gives_way : (most sum : ℕ) (idle : List ℕ) → sum ≤ most → gives_way most sum idle ≡ Some 0
none_gives_way most sum [] fits = rw (le-leb sum most fits) refl
none_gives_way most sum (weight ∷ idle) fits = rw (le-leb sum most fits) refl

pub fits_now : (count most left : ℕ) (idle : List ℕ) (all : Option ℕ) → left ≤ most
    → option_map (λ (n : ℕ). count + n) (gives_way most left idle) ≡ all → Some count ≡ all
fits_now count most left idle all fits invariant = search (arith, none_gives_way)
