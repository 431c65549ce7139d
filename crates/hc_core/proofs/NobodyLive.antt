-- Where nobody is live nobody is bound, waits or has a turn, no exchange is open, and nothing is held.
use Rattle.std.proofs.{lemmas.Bool.Decides.{nat_tests}, Common.{arith, ◌≡◌, ℕ, [], ◌∷◌, Bool, true, false, Option, Some, None, refl, ap, sym, ◌∙◌}}
use Rattle.hc_text.proofs.Basics.{false_true, none_long, never_true as not_true}
use Rattle.hc_effects.proofs.Vocabulary.{Place, live, is_live, is_live_place, is_open, Lawful, bound, is_bound, Tables, Exchange, Representation, Consumer, IsSomebodys, may_own, place}
use Rattle.hc_model.specs.Whose as whose
use Rattle.hc_effects.proofs.ExclusiveWriters.{filter_some}
use Rattle.hc_state.specs.Kept.{held_for, held_of, unread, unstored_bytes}
use Rattle.hc_state.proofs.LiveCounts.{filter_nothing}

pub over_by : (p : Place) → is_live_place p ≡ false → p ≡ place.Over
over_by p off = grind (arith, nat_tests)

module _ (t : Tables) (law : Lawful t) (none : live t ≡ 0) where
  pub nobody : (c : ℕ) → is_live (t.consumer c) ≡ false
  nobody c = grind (arith, nat_tests, not_true, filter_some, none_long)

  -- whoever started left
  has_left : (c : ℕ) (k : Consumer) → t.consumer c ≡ Some k → k.place ≡ place.Over
  has_left c k row = over_by k.place (sym (ap is_live row) ∙ nobody c)

  -- so nothing is said of anybody that isn't said of who left
  pub nobody_says : (f : Option Consumer → Bool) → f None ≡ false → ((k : Consumer) → k.place ≡ place.Over → f (Some k) ≡ false) → (c : ℕ) →
      f (t.consumer c) ≡ false
  nobody_says f off over c = grind (arith, nat_tests, has_left)

  pub unbound : (r c : ℕ) → is_bound r (t.consumer c) ≡ false
  unbound r = nobody_says (is_bound r) refl (λ k at. rw at refl)

  pub none_bound : (r : ℕ) → bound t r ≡ []
  unfolding bound
  none_bound r = filter_nothing (λ c. is_bound r (t.consumer c)) t.starts (unbound r)

  elsewhere : (p : Place) → p ≡ place.Over → may_own p ≡ true → ⊥
  elsewhere p at on = false_true (sym (ap may_own at) ∙ on)

  -- an open exchange would be somebody's
  somebodys : (x : ℕ) (w : Exchange) → IsSomebodys t x w → ⊥
  somebodys x w owner = grind (arith, nat_tests, elsewhere, has_left, none_bound)

  pub shut : (x : ℕ) → is_open (t.exchange x) ≡ false
  shut x = by_row (t.exchange x) refl
    where
      by_row : (o : Option Exchange) → t.exchange x ≡ o → is_open o ≡ false
      by_row None row = refl
      by_row (Some w) row = not_true w.is_open (λ on. somebodys x w (law.whose.somebodys x w row on))

  unread_none : (x : ℕ) (w : Exchange) (c : ℕ) (o : Option Consumer) → t.consumer c ≡ o → unread x w o ≡ []
  unread_none x w c None row = refl
  unread_none x w c (Some k) row = (let at = has_left c k row in rw at refl)

  unstored_none : (x : ℕ) (w : Exchange) (v : Representation) (c : ℕ) (o : Option Consumer) → t.consumer c ≡ o → unstored_bytes t x w v o ≡ []
  unstored_none x w v c None row = refl
  unstored_none x w v c (Some k) row = (let at = has_left c k row in rw at refl)

  pub none_held : (x : ℕ) → held_for t x (t.exchange x) ≡ []
  none_held x = grind (arith, nat_tests, unstored_none, held_of, unread_none)
