-- An exchange that is opened brings nothing to a representation that was there before: how much of that is stored stays.
use Rattle.std.{proofs.Common.{◌≡◌, ◌≢◌, inl, inr, ℕ, List, [], ◌∷◌, Bool, true, false, Some, None, refl, ap, sym, ◌∙◌}, specs.{Prelude.{◌==◌, ◌&&◌}, List.{list_any}}}
use Rattle.hc_text.proofs.Basics.{eqb-other, same_or}
use Rattle.hc_effects.proofs.Vocabulary.{kind_of, is_growing, brings_to, Tables, Exchange, Representation}
use Rattle.hc_effects.proofs.Tests.{none_some}

anys_there : (t s : Tables) (q : ℕ) → ((y : ℕ) → brings_to q y (s.exchange y) ≡ brings_to q y (t.exchange y)) → (ys : List ℕ) →
    list_any (λ y. brings_to q y (s.exchange y)) ys ≡ list_any (λ y. brings_to q y (t.exchange y)) ys
anys_there t s q each [] = refl
anys_there t s q each (y ∷ ys) = rw (each y, anys_there t s q each ys) refl

module _ (t s : Tables) (x : ℕ) (z : Exchange) (free : t.exchange x ≡ None) (unfounded : t.representation x ≡ None)
    (opened : s.exchange x ≡ Some z) (exchanges : (y : ℕ) → y ≢ x → s.exchange y ≡ t.exchange y) (lists : s.openings ≡ x ∷ t.openings)
    (unjoined : z.joined ≡ None) where
  brings_none : (q : ℕ) (b : Representation) → t.representation q ≡ Some b → brings_to q x (s.exchange x) ≡ false
  brings_none q b there = rw (opened, unjoined) (by_open z.is_open)
    where
      apart : x ≢ q
      apart is = none_some b (sym unfounded ∙ (ap t.representation is ∙ there))

      by_open : (o : Bool) → (o && (x == q)) ≡ false
      by_open true = eqb-other x q apart
      by_open false = refl

  brings_same : (q : ℕ) (b : Representation) → t.representation q ≡ Some b → (y : ℕ) → brings_to q y (s.exchange y) ≡ brings_to q y (t.exchange y)
  brings_same q b there y = elim (same_or y x) [
    | inl is ↦ rw is (brings_none q b there ∙ rw free refl)
    | inr off ↦ ap (brings_to q y) (exchanges y off)
  ]

  growing : (q : ℕ) (b : Representation) → t.representation q ≡ Some b → is_growing s q ≡ is_growing t q
  growing q b there =
      ap (list_any (λ y. brings_to q y (s.exchange y))) lists
      ∙ (rw (brings_none q b there) (anys_there t s q (brings_same q b there) t.openings))

  pub kinds_opened : (q : ℕ) (b : Representation) → t.representation q ≡ Some b → kind_of s q b ≡ kind_of t q b
  unfolding kind_of
  kinds_opened q b there = rw (growing q b there) refl
