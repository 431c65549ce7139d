-- Bytes that go in one after another.
use Rattle.std.proofs.{Common.{◌≡◌, ℕ, ◌+◌, ◌<◌, ◌≤◌, List, [], ◌++◌, length, take, drop, Option, Some, None, refl, sym, ap, ◌∙◌, arith, append_assoc, ◌-◌, take-add}, lemmas.{Grind.{common_steps}, List.{append-nil}}}
use Rattle.hc_io.specs.Sink.{Takes}

pub takes_none : (old : Option (List ℕ)) → Takes old old []
takes_none None = refl
takes_none (Some old) = ap Some (sym (append-nil old))

pub takes_more : (old mid new : Option (List ℕ)) (a b : List ℕ) → Takes old mid a → Takes mid new b → Takes old new (a ++ b)
takes_more None None new a b f g = g
takes_more None (Some mid) new a b f g = cc
takes_more (Some old) None new a b f g = cc
takes_more (Some old) (Some mid) new a b f g = let e : mid ≡ old ++ a = cc in g ∙ ap Some (rw (e, append_assoc) refl)

-- what stands from a place on is the whole of it
rest-all : (xs : List ℕ) (at : ℕ) → take (length xs - at) (drop at xs) ≡ drop at xs
rest-all xs at = grind (arith, common_steps)

pub takes_next : (old mid new : Option (List ℕ)) (xs : List ℕ) (at n : ℕ) → Takes old mid (take at xs) →
    Takes mid new (take n (take (length xs - at) (drop at xs))) → Takes old new (take (at + n) xs)
takes_next old mid new xs at n f g = rw (take-add at n xs) (takes_more old mid new (take at xs) (take n (drop at xs)) f (rw (rest-all xs at) at g))

pub within_next : (xs : List ℕ) (at n : ℕ) → at < length xs → n ≤ length (take (length xs - at) (drop at xs)) → at + n ≤ length xs
within_next xs at n lt le = grind (arith, common_steps)
