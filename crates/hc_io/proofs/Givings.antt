-- Bytes that are given one after another.
use Rattle.std.proofs.{Common.{◌≡◌, ℕ, ◌+◌, ◌≤◌, List, [], ◌++◌, take, drop, Option, Some, None, refl, sym, ◌∙◌, append_assoc, take-add}, lemmas.List.{take-take, drop-drop, take-append-drop}}
use Rattle.hc_io.specs.Source.{Gives}

pub gives_none : (old : Option (List ℕ)) → Gives old old []
gives_none None = refl
gives_none (Some old) = refl

pub gives_more : (old mid new : Option (List ℕ)) (a b : List ℕ) → Gives old mid a → Gives mid new b → Gives old new (a ++ b)
gives_more None None new a b f g = g
gives_more None (Some mid) new a b f g = cc
gives_more (Some old) None new a b f g = absurd f
gives_more (Some old) (Some mid) None a b f g = absurd g
gives_more (Some old) (Some mid) (Some rest) a b f g = f ∙ rw (g, append_assoc) refl

-- a read behind what was filled before
pub gives_next : (old mid new : Option (List ℕ)) (before after : List ℕ) (filled n : ℕ)
    → Gives old mid (take filled before) → take filled after ≡ take filled before → Gives mid new (take n (drop filled after))
    → Gives old new (take (filled + n) after)
gives_next old mid new before after filled n f same g =
    rw (take-add filled n after, same) (gives_more old mid new (take filled before) (take n (drop filled after)) f g)

-- what is taken from a place on, and what is left behind it
pub split_left : (all given : List ℕ) (at k n : ℕ) → given ≡ take n (take k (drop at all)) → n ≤ k → drop at all ≡ given ++ drop (at + n) all
split_left all given at k n is le =
    rw (is, take-take n k (drop at all) le, ← drop-drop n at all) (sym (take-append-drop n (drop at all)))
