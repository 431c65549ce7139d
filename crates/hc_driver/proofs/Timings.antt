-- Events whose moments don't go back.
use Rattle.std.proofs.Common.{◌≡◌, ℕ, ◌≤◌, List, [], ◌∷◌, ◌++◌, refl, arith}
use Rattle.hc_sched.specs.{declared.schedule.Timed.{Timed}, Laws.{AreTimed}}
use Rattle.hc_driver.specs.Counting.{last_moment}

pub timed_from : (a b : ℕ) (xs : List Timed) → b ≤ a → AreTimed a xs → AreTimed b xs
timed_from a b [] le h = tt
timed_from a b (x ∷ xs) le h = (h.0, h.1, omega (arith, le, h.2), h.3)

pub timed_front : (a : ℕ) (xs ys : List Timed) → AreTimed a (xs ++ ys) → AreTimed a xs
timed_front a [] ys h = tt
timed_front a (x ∷ xs) ys h = (h.0, h.1, h.2, timed_front x.now xs ys h.3)

pub timed_back : (a : ℕ) (xs ys : List Timed) → AreTimed a (xs ++ ys) → AreTimed (last_moment a xs) ys
timed_back a [] ys h = h
timed_back a (x ∷ xs) ys h = timed_back x.now xs ys h.3

pub last-append : (a : ℕ) (xs ys : List Timed) → last_moment a (xs ++ ys) ≡ last_moment (last_moment a xs) ys
last-append a [] ys = refl
last-append a (x ∷ xs) ys = last-append x.now xs ys

pub last_later : (a b : ℕ) (xs : List Timed) → a ≤ b → last_moment a xs ≤ last_moment b xs
last_later a b [] le = le
last_later a b (x ∷ xs) le = omega arith
