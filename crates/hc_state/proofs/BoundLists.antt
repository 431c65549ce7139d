-- Somebody is bound to a representation in the tables where and only where somebody is kept as bound to it.
use Rattle.std.{proofs.{Common.{◌≡◌, ◌≢◌, ℕ, List, [], ◌∷◌, length, Bool, true, false, Option, Some, None, refl, sym, ◌∙◌, arith}, lemmas.Bool.Decides.{nat_tests}}, specs.Prelude.{is_some, filter, ◌==◌}}
use Rattle.hc_text.proofs.Basics.{eqb-same, false_true}
use Rattle.hc_stored.specs.Kept.{Kept, is_nobody}
use Rattle.hc_text.specs.Sorted.{itself, has}
use Rattle.hc_effects.proofs.Vocabulary.{bound, is_bound, Tables, Representation, Among}
use Rattle.hc_effects.proofs.ExclusiveWriters.{filter_some}
use Rattle.hc_model.specs.Rows as rows
use Rattle.hc_state.specs.Stored.{IsEntry}

nobody_passes : (f : ℕ → Bool) → ((c : ℕ) → f c ≡ false) → (cs : List ℕ) → filter f cs ≡ []
nobody_passes f none [] = refl
nobody_passes f none (c ∷ cs) = rw (none c) (nobody_passes f none cs)

none_left : (d : ℕ) (ds : List ℕ) → (d ∷ ds) ≡ [] → ⊥
none_left d ds never = cc

no_user : (cs : List ℕ) → is_nobody cs ≡ true → (c : ℕ) → has itself c cs ≡ false
no_user cs none c = grind (arith, nat_tests)

first_user : (cs : List ℕ) → is_nobody cs ≡ false → (c : ℕ) × (has itself c cs ≡ true)
first_user [] some = false_true (sym some)
first_user (d ∷ cs) some = (d, rw (eqb-same d) refl)

module _ (t : Tables) (n : ℕ) (k : Kept) (v : Representation) (entry : IsEntry t n k v) where
  pub bound_none : is_nobody k.bound ≡ true → bound t n ≡ []
  unfolding bound
  bound_none none = nobody_passes (λ c. is_bound n (t.consumer c)) (λ c. sym (entry.bound c) ∙ no_user k.bound none c) t.starts

bound_row : (n : ℕ) (z : Option rows.Consumer) → is_bound n z ≡ true → is_some z ≡ true
bound_row n z is = grind (arith, nat_tests)

module _ (t : Tables) (started : (c : ℕ) → is_some (t.consumer c) ≡ true → Among c t.starts) (n : ℕ) (k : Kept) (v : Representation)
    (entry : IsEntry t n k v) where
  pub bound_some : is_nobody k.bound ≡ false → bound t n ≢ []
  unfolding bound
  bound_some some = grind (arith, nat_tests, first_user, is_bound, filter_some, bound_row)

  no_length : (cs : List ℕ) → cs ≢ [] → (length cs == 0) ≡ false
  no_length [] some = absurd (some refl)
  no_length (c ∷ cs) some = grind (arith, nat_tests)

  pub nobody_bound : is_nobody k.bound ≡ (length (bound t n) == 0)
  nobody_bound = by_test (is_nobody k.bound) refl
    where
      by_test : (b : Bool) → is_nobody k.bound ≡ b → b ≡ (length (bound t n) == 0)
      by_test true none = rw (bound_none t n k v entry none) refl
      by_test false some = sym (no_length (bound t n) (bound_some some))
