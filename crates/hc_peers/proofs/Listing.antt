-- One turn of a loop that lists the keys which pass a test.
use Rattle.std.{proofs.Common.{◌≡◌, ℕ, Bool, true, false, List, [], ◌∷◌, ◌++◌, ◌∙◌, append_assoc}, specs.{Prelude.{filter}, Map.{keys_of}}}

pub list-more : (p : ℕ → Bool) (to to' base : List ℕ) (s t : List (ℕ × ℕ)) (x : ℕ × ℕ) → s ≡ x ∷ t → to ++ filter p (keys_of s) ≡ base
    → p x.0 ≡ true → to' ≡ to ++ x.0 ∷ [] → to' ++ filter p (keys_of t) ≡ base
list-more p to to' base s t x is h on more = rw more (append_assoc to (x.0 ∷ []) (filter p (keys_of t)) ∙ (rw on at (rw is at h)))

pub list-less : (p : ℕ → Bool) (to base : List ℕ) (s t : List (ℕ × ℕ)) (x : ℕ × ℕ) → s ≡ x ∷ t → to ++ filter p (keys_of s) ≡ base
    → p x.0 ≡ false → to ++ filter p (keys_of t) ≡ base
list-less p to base s t x is h off = rw off at (rw is at h)
