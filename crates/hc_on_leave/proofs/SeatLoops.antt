-- Who changed so far in a loop over the seats of a key.
use Rattle.std.{proofs.Common.{◌≡◌, ◌≢◌, ◌⊎◌, inl, inr, ℕ, ◌+◌, ◌<◌, ◌≤◌, List, Bool, true, false, cond, Some, None, refl, ap, sym, ◌∙◌, subst, arith}, specs.{Prelude.{nat_eq, option_map}, HashMap.{get, hash_map_len}}}
use Rattle.hc_text.proofs.Basics.{eqb-other, eqb-same, false_true, same_or, some_inj as some_is}
use Rattle.hc_entry.specs.{declared.keys.KeyTable.{KeyTable}, Keys.{line_of, seated_at, AllAreSeatedBelow, IsItsSeat}, Lines.{is_in}}
use Rattle.hc_state.specs.Changes.{Numbered, ChangesAt, ChangesAmong}
use Rattle.hc_txn.specs.declared.transaction.Transaction.{Transaction as Consumer}
use Rattle.hc_effects.proofs.Tests.{none_some}

-- Those with a seat below i changed so, and nobody else changed.
pub record AreChangedBelow (i : ℕ) (kept : KeyTable) (key : List ℕ) (f : Consumer → Consumer) (old new : Numbered Consumer) : Type 0 where
  pub changed : (j d : ℕ) → j < i → seated_at kept key j ≡ Some d → get nat_eq new d ≡ option_map f (get nat_eq old d)
  pub inside : (j d : ℕ) → j < i → seated_at kept key j ≡ Some d → is_in d (line_of kept key) ≡ true
  pub rest : (d : ℕ) → ((j : ℕ) → j < i → seated_at kept key j ≡ Some d → ⊥) → get nat_eq new d ≡ get nat_eq old d
  pub len : hash_map_len new ≡ hash_map_len old

pub last_or : (j i : ℕ) → j < i + 1 → (j ≡ i) ⊎ (j < i)
last_or j i lt = elim (same_or j i) [ inl same ↦ inl same | inr ne ↦ inr (omega (arith, lt, ne)) ]

module _ (kept : KeyTable) (key : List ℕ) (f : Consumer → Consumer) (old : Numbered Consumer) where
  pub none_changed : AreChangedBelow 0 kept key f old old
  none_changed = record {
    changed = λ j d lt is. absurd (omega (arith, lt));
    inside = λ j d lt is. absurd (omega (arith, lt));
    rest = λ d none. refl;
    len = refl;
  }

  pub nobody_more : (i : ℕ) (mid : Numbered Consumer) → AreChangedBelow i kept key f old mid → seated_at kept key i ≡ None →
      AreChangedBelow (i + 1) kept key f old mid
  nobody_more i mid was none = record {
    changed = λ j d lt is. elim (last_or j i lt)
        [ inl same ↦ none_some d (sym none ∙ (ap (seated_at kept key) (sym same) ∙ is)) | inr below ↦ was.changed j d below is ];
    inside = λ j d lt is. elim (last_or j i lt)
        [ inl same ↦ none_some d (sym none ∙ (ap (seated_at kept key) (sym same) ∙ is)) | inr below ↦ was.inside j d below is ];
    rest = λ d unseated. was.rest d (λ j lt is. unseated j (omega (arith, lt)) is);
    len = was.len;
  }

  module _ (i c : ℕ) (mid new : Numbered Consumer) (was : AreChangedBelow i kept key f old mid) (there : seated_at kept key i ≡ Some c)
      (waits : is_in c (line_of kept key) ≡ true) (its : IsItsSeat kept key i c) (changes : ChangesAt mid new c f) where
    -- its change is its own
    here : get nat_eq new c ≡ option_map f (get nat_eq old c)
    here = changes.places c ∙ rw (eqb-same c) (ap (option_map f) (was.rest c (λ j lt is. (let same = its j is in absurd (omega (arith, lt, same))))))

    elsewhere : (d : ℕ) → c ≢ d → get nat_eq new d ≡ get nat_eq mid d
    elsewhere d ne = changes.places d ∙ rw (eqb-other c d ne) refl

    one_at : (j d : ℕ) → j ≡ i → seated_at kept key j ≡ Some d → c ≡ d
    one_at j d same is = some_is c d (sym there ∙ (ap (seated_at kept key) (sym same) ∙ is))

    pub one_more : AreChangedBelow (i + 1) kept key f old new
    one_more = record {
      changed = λ j d lt is. elim (last_or j i lt) [
        | inl same ↦ subst (λ n. get nat_eq new n ≡ option_map f (get nat_eq old n)) (one_at j d same is) here
        | inr below ↦ elsewhere d (λ one. (let same = its j (is ∙ ap Some (sym one)) in absurd (omega (arith, below, same)))) ∙ was.changed j d below is
      ];
      inside = λ j d lt is. elim (last_or j i lt) [
        | inl same ↦ subst (λ n. is_in n (line_of kept key) ≡ true) (one_at j d same is) waits
        | inr below ↦ was.inside j d below is
      ];
      rest = λ d unseated. elsewhere d (λ one. unseated i (omega arith) (there ∙ ap Some one)) ∙ was.rest d (λ j lt is. unseated j (omega (arith, lt)) is);
      len = changes.len ∙ was.len;
    }

  -- at the end everyone who waits for the key did
  pub all_changed : (end i : ℕ) (new : Numbered Consumer) → AllAreSeatedBelow end kept key → end ≤ i → AreChangedBelow i kept key f old new →
      ChangesAmong old new (λ d. is_in d (line_of kept key)) f
  all_changed end i new seated le was = record { places = λ d. by_test d (is_in d (line_of kept key)) refl; len = was.len }
    where
      by_test : (d : ℕ) (b : Bool) → is_in d (line_of kept key) ≡ b → get nat_eq new d ≡ cond b (option_map f (get nat_eq old d)) (get nat_eq old d)
      by_test d true on = let (j, lt, there) = seated d on in was.changed j d (omega (arith, lt, le)) there
      by_test d false off = was.rest d (λ j lt is. false_true (sym off ∙ was.inside j d lt is))
