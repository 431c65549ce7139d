-- What an exchange that stops brought is what the event writes, where that is sealed.
use Rattle.std.{proofs.{lemmas.Bool.Decides.{nat_tests}, Common.{arith, ◌≡◌, ◌≢◌, inl, inr, ℕ, List, [], ◌∷◌, Bool, true, false, Option, Some, None, refl, ap, sym, ◌∙◌}}, specs.Prelude.{is_some, nat_eq, not, ◌&&◌, ◌||◌, ◌==◌, if◌then◌else◌}}
use Rattle.hc_text.proofs.Basics.{eq_reports, eqb-other, eqb-same, same_or}
use Rattle.hc_effects.proofs.Vocabulary.{brings_whole, closes_in, is_unkeepable, going_with, Entry, family, ends_early, ends_founding, is_keepable, stops_early, Lawful, Tables, Exchange, Representation, Among, sealed_representation, seals_at, sealed_by, is_sealed, stops, first_found}
use Rattle.hc_effects.proofs.Tests.{none_some}

found_only : (f : ℕ → Option ℕ) (x r : ℕ) (ys : List ℕ) → Among x ys → f x ≡ Some r → ((y : ℕ) → x ≢ y → f y ≡ None) → first_found f ys ≡ Some r
found_only f x r [] among is off = absurd among
found_only f x r (y ∷ ys) (inl same) is off = (let here : f y ≡ Some r = ap f same ∙ is in rw here refl)
found_only f x r (y ∷ ys) (inr later) is off = elim (same_or x y) [
  | inl e ↦ (let here : f y ≡ Some r = ap f (sym e) ∙ is in rw here refl)
  | inr ne ↦ rw (off y ne) (found_only f x r ys later is off)
]

-- of what stands in its tables as to be sealed
module _ (t : Tables) (law : Lawful t) (e : Entry) (x : ℕ) (w : Exchange) (r : ℕ) (v : Representation) (ex : t.exchange x ≡ Some w)
    (of_r : family x w ≡ r) (there : t.representation r ≡ Some v) (stays : v.is_gone ≡ false)
    (stops_at : (y : ℕ) → (stops y e.event || closes_in y e.acts) ≡ nat_eq x y)
    (lasting : (z : Exchange) → t.exchange r ≡ Some z → (stops_early z r e.event || closes_in r e.acts) ≡ true → is_unkeepable (Some v) ≡ false) where
  early : (ends_early t e r v && not (is_keepable v)) ≡ false
  early = by_row (t.exchange r) refl
    where
      by_tests : (s o k : Bool) → (s && o && k) ≡ (o && (s && k))
      by_tests true o k = refl
      by_tests false true k = refl
      by_tests false false k = refl

      by_closing : (o b : Bool) (z : Exchange) → t.exchange r ≡ Some z → (stops_early z r e.event || closes_in r e.acts) ≡ b →
          ((o && b) && is_unkeepable (Some v)) ≡ false
      by_closing true true z row on = lasting z row on
      by_closing true false z row off = refl
      by_closing false b z row is = refl

      founding : (z : Option Exchange) → t.exchange r ≡ z → (ends_founding e r z && is_unkeepable (Some v)) ≡ false
      founding None row = refl
      founding (Some z) row = by_closing z.is_open (stops_early z r e.event || closes_in r e.acts) z row refl

      by_row : (z : Option Exchange) → t.exchange r ≡ z → (ends_early t e r v && not (is_keepable v)) ≡ false
      by_row z row = by_tests (brings_whole v.head.status) (ends_founding e r (t.exchange r)) (not (is_keepable v)) ∙ founding (t.exchange r) refl

  seals_here : seals_at t e x ≡ Some r
  unfolding is_keepable
  seals_here = grind (arith, nat_tests, early, eqb-same)

  seals_no_other : (y : ℕ) → x ≢ y → seals_at t e y ≡ None
  seals_no_other y ne = rw (stops_at y, eqb-other x y ne) refl

  pub sealed_lasting : sealed_representation t e ≡ Some r
  sealed_lasting = found_only (seals_at t e) x r t.openings (law.sound.numbered.lists.opened x (ap (λ z. is_some z) ex)) seals_here seals_no_other

-- where it doesn't go with the exchange that founded it
pub sealed_stopping : (t : Tables) → Lawful t → (e : Entry) (x : ℕ) (w : Exchange) (r : ℕ) (v : Representation) → t.exchange x ≡ Some w → family x w ≡ r →
    t.representation r ≡ Some v → v.is_gone ≡ false → going_with t (Some x) ≡ None
    → ((y : ℕ) → (stops y e.event || closes_in y e.acts) ≡ nat_eq x y) →
    ((y : ℕ) (z : Exchange) → (stops_early z y e.event || closes_in y e.acts) ≡ true → nat_eq x y ≡ true) → sealed_representation t e ≡ Some r
sealed_stopping t law e x w r v ex of_r there stays kept stops_at early_at =
    sealed_lasting t law e x w r v ex of_r there stays stops_at (λ z row on. keepable (sym (eq_reports x r (early_at r z on))))
  where
    keepable : r ≡ x → is_unkeepable (Some v) ≡ false
    keepable same = ap is_unkeepable (sym (ap t.representation (sym same) ∙ there)) ∙ by_test (is_unkeepable (t.representation x)) refl kept
      where
        by_test : (b : Bool) → is_unkeepable (t.representation x) ≡ b → (if b then Some x else None) ≡ None → is_unkeepable (t.representation x) ≡ false
        by_test false is h = is
        by_test true is h = none_some x (sym h)

-- where it is closed for a leaver
pub sealed_leaving : (t : Tables) → Lawful t → (e : Entry) (x : ℕ) (w : Exchange) (r : ℕ) (v : Representation) → t.exchange x ≡ Some w → family x w ≡ r →
    t.representation r ≡ Some v → v.is_gone ≡ false → going_with t (Some x) ≡ None
    → ((y : ℕ) → stops y e.event ≡ false) → ((y : ℕ) (z : Exchange) → stops_early z y e.event ≡ false) → ((y : ℕ) → closes_in y e.acts ≡ nat_eq x y) →
    sealed_representation t e ≡ Some r
sealed_leaving t law e x w r v ex of_r there stays kept goes_on whole closes =
    sealed_stopping t law e x w r v ex of_r there stays kept (λ y. rw (goes_on y) (closes y))
    (λ y z on. sym (closes y) ∙ (sym (ap (λ b. b || closes_in y e.acts) (whole y z)) ∙ on))
