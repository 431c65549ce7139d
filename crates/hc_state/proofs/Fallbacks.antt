-- Consumers that read nothing: nothing is held for them, and they are bound to nothing.
--
-- A row is alike in two tables if it stays, or reads nothing in both (`IsAlike`). By its place, who reads nothing has
-- nothing unread or unstored. So where all rows are alike, as much is held of each exchange (`held_alike`), also if a
-- representation goes whose bytes stay (`held_gone`). And the same ones are bound (`users_alike`). `FallbackSteps`,
-- `StartHandler` and `LetGoHandler` use this. Most files on what is held use `unstored_moved`.
use Rattle.std.{proofs.{lemmas.Bool.Decides.{nat_tests}, Common.{arith, ◌≡◌, ℕ, [], Bool, true, false, Option, Some, None, refl, ap, sym, ◌∙◌}}, specs.Prelude.{not, option_map, if◌then◌else◌}}
use Rattle.hc_text.proofs.Basics.{false_true}
use Rattle.hc_effects.proofs.Vocabulary.{Place, as_gone, family, reads, is_bound, Tables, Exchange, Representation, Consumer, place}
use Rattle.hc_state.specs.Kept.{answer_for, unread, unstored_bytes, held_alone, held_of, held_for}

-- it isn't there, or reads nothing
abbrev pub is_fallback : Option Consumer → Bool
is_fallback None = true
is_fallback (Some k) = not (reads k.place)

-- a row stays, or reads nothing before and after
pub data IsAlike (o p : Option Consumer) : Type 0 where
  same : p ≡ o → IsAlike o p
  fallback : is_fallback o ≡ true → is_fallback p ≡ true → IsAlike o p

-- NO HEAD IS KEPT FOR THEM

pub answer_fallback : (t : Tables) (k : Consumer) → reads k.place ≡ false → answer_for t k ≡ None
answer_fallback t k idle = grind (arith, nat_tests)

-- NOTHING IS HELD FOR THEM

pub unread_fallback : (x : ℕ) (w : Exchange) (row : Option Consumer) → is_fallback row ≡ true → unread x w row ≡ []
unread_fallback x w row is = grind (arith, nat_tests)

pub unstored_fallback : (t : Tables) (x : ℕ) (w : Exchange) (v : Representation) (row : Option Consumer) → is_fallback row ≡ true →
    unstored_bytes t x w v row ≡ []
unstored_fallback t x w v row is = grind (arith, nat_tests)

-- what isn't stored is the same for other tables, since it stands where it is bound
pub unstored_moved : (t s : Tables) (x : ℕ) (w : Exchange) (v : Representation) (row : Option Consumer) →
    unstored_bytes s x w v row ≡ unstored_bytes t x w v row
unstored_moved t s x w v row = grind (arith, nat_tests)

module _ (t s : Tables) (alike : (d : ℕ) → IsAlike (t.consumer d) (s.consumer d)) where
  unread_alike : (x : ℕ) (w : Exchange) (o p : Option Consumer) → IsAlike o p → unread x w p ≡ unread x w o
  unread_alike x w o p it4 = grind (arith, nat_tests)

  unstored_alike : (x : ℕ) (w : Exchange) (v : Representation) (o p : Option Consumer) → IsAlike o p → unstored_bytes s x w v p ≡ unstored_bytes t x w v o
  unstored_alike x w v o p (same is) = ap (unstored_bytes s x w v) is ∙ unstored_moved t s x w v o
  unstored_alike x w v o p (fallback was is) = unstored_fallback s x w v p is ∙ sym (unstored_fallback t x w v o was)

  alone_alike : (x : ℕ) (w : Exchange) (v : Representation) (c : Option ℕ) → held_alone s x w v c ≡ held_alone t x w v c
  alone_alike x w v None = refl
  alone_alike x w v (Some c) = unstored_alike x w v (t.consumer c) (s.consumer c) (alike c)

  of_alike : (x : ℕ) (w : Exchange) (row : Option Representation) → held_of s x w row ≡ held_of t x w row
  of_alike x w None = unread_alike x w (t.consumer w.c) (s.consumer w.c) (alike w.c)
  of_alike x w (Some v) = alone_alike x w v v.alone

  -- what is held of an exchange stays
  pub held_alike : (x : ℕ) (w : Exchange) → s.representation (family x w) ≡ t.representation (family x w) → held_for s x (Some w) ≡ held_for t x (Some w)
  held_alike x w same_row = ap (held_of s x w) same_row ∙ of_alike x w (t.representation (family x w))

  -- also where a representation goes, whose bytes stay
  pub held_gone : (b : Bool) (x : ℕ) (w : Exchange) →
      s.representation (family x w) ≡ (if b then option_map as_gone (t.representation (family x w)) else t.representation (family x w))
      → held_for s x (Some w) ≡ held_for t x (Some w)
  held_gone b x w is = ap (held_of s x w) is ∙ (by_row b (t.representation (family x w)) ∙ of_alike x w (t.representation (family x w)))
    where
      by_row : (b : Bool) (row : Option Representation) → held_of s x w (if b then option_map as_gone row else row) ≡ held_of s x w row
      by_row false row = refl
      by_row true None = refl
      by_row true (Some v) = refl

  -- THEY ARE BOUND TO NOTHING

  bound_alike : (r : ℕ) (o p : Option Consumer) → IsAlike o p → is_bound r p ≡ is_bound r o
  bound_alike r o p it3 = grind (arith, nat_tests)

  pub users_alike : (r c : ℕ) → is_bound r (s.consumer c) ≡ is_bound r (t.consumer c)
  users_alike r c = bound_alike r (t.consumer c) (s.consumer c) (alike c)
