-- One consumer's row is another: what is kept of it, of its key and of the representations represents the tables then.
use Rattle.std.{proofs.{lemmas.Bool.Decides.{nat_tests}, Common.{arith, ◌≡◌, ◌≢◌, ◌⊎◌, inl, inr, ℕ, ◌+◌, List, [], Bool, true, false, cond, eqb, Option, refl, sym, ◌∙◌, subst}}, specs.{Prelude.{nat_eq, bytes_eq, ◌==◌, if◌then◌else◌}, HashMap.{get}}}
use Rattle.hc_text.proofs.Basics.{eqb-other, eqb-same, same_or}
use Rattle.hc_store.specs.declared.backend.Backend.{Ghosts}
use Rattle.hc_entry.specs.{declared.keys.KeyTable.{KeyTable}, Keys.{kept_of}, Lines.{is_held_by}}
use Rattle.hc_text.specs.Sorted.{is_among}
use Rattle.hc_entry.specs.Keys as keys
use Rattle.hc_entry.specs.Kept as keyed
use Rattle.hc_effects.proofs.Vocabulary.{current, with_consumer, is_in_line, Tables}
use Rattle.hc_model.specs.Rows as rows
use Rattle.hc_rules.proofs.RangeReads.{same_bytes}
use Rattle.hc_state.specs.{declared.rows.Rows.{Rows}, Changes.{BecomesAt}, Kept.{KeepsConsumer}, Lines.{KeepsKey, has_turn, is_passed, is_away}}
use Rattle.hc_txn.specs.declared.transaction.Transaction.{Transaction as Consumer}
use Rattle.hc_state.proofs.Ties.{SeesSame, consumer_same}

-- CONSUMERS

module _ (t : Tables) (c : ℕ) (row : Option rows.Consumer) where
  -- whoever stands anywhere sees the same as before
  pub sees_same : (p : _) → SeesSame t (with_consumer c row t) p
  sees_same p = record { past = λ x at. refl; length = λ q lo hi by at. refl }

  pub kept_with : (o : Option Consumer) → KeepsConsumer t o row → KeepsConsumer (with_consumer c row t) o row
  kept_with o kept = consumer_same t (with_consumer c row t) o row (λ v is. sees_same v.place) kept

  -- the consumers that are kept represent it
  pub all_kept_with : {B : Type 0} {g : Ghosts B} (r u : Rows B g) (o : Option Consumer) → BecomesAt r.consumers u.consumers c o → KeepsConsumer t o row
      → ((d : ℕ) → KeepsConsumer t (get nat_eq r.consumers d) (t.consumer d)) → (d : ℕ) →
      KeepsConsumer (with_consumer c row t) (get nat_eq u.consumers d) ((with_consumer c row t).consumer d)
  all_kept_with r u o becomes kept each d = elim (same_or c d) [
    | inl here ↦ subst (λ (z : ℕ). KeepsConsumer (with_consumer c row t) (get nat_eq u.consumers z) ((with_consumer c row t).consumer z)) here
        (rw (becomes.places c, eqb-same c) (kept_with o kept))
    | inr ne ↦ rw (becomes.places d, eqb-other c d ne)
        (consumer_same t (with_consumer c row t) (get nat_eq r.consumers d) (t.consumer d) (λ v is. sees_same v.place) (each d))
  ]

  -- KEYS

  -- of everyone but c what is kept of the key is as before, and of c as its row is
  pub record KeyAfter (key : List ℕ) (a b : keyed.Kept) : Type 0 where
    pub current : b.current ≡ a.current
    pub in_line : (d : ℕ) → is_among d b.in_line ≡ cond (eqb c d) (is_in_line key row) (is_among d a.in_line)
    pub passed : (d : ℕ) → is_among d b.passed ≡ cond (eqb c d) (is_passed key row) (is_among d a.passed)
    pub away : (d : ℕ) → is_among d b.away ≡ cond (eqb c d) (is_away t key row) (is_among d a.away)
    pub holder : (d : ℕ) → is_held_by d b.holder ≡ cond (eqb c d) (has_turn key row) (is_held_by d a.holder)

  by_one : (f : Option rows.Consumer → Bool) (g h : ℕ → Bool) → ((d : ℕ) → h d ≡ cond (eqb c d) (f row) (g d)) → ((d : ℕ) → g d ≡ f (t.consumer d)) →
      (d : ℕ) → h d ≡ f ((with_consumer c row t).consumer d)
  by_one f g h is was d = grind (arith, nat_tests)

  pub key_with : (key : List ℕ) (a b : keyed.Kept) → KeepsKey t key a → KeyAfter key a b → KeepsKey (with_consumer c row t) key b
  unfolding current
  key_with key a b kept after = record {
    current = after.current ∙ kept.current;
    in_line = by_one (is_in_line key) (λ d. is_among d a.in_line) (λ d. is_among d b.in_line) after.in_line kept.in_line;
    passed = by_one (is_passed key) (λ d. is_among d a.passed) (λ d. is_among d b.passed) after.passed kept.passed;
    away = by_one (is_away t key) (λ d. is_among d a.away) (λ d. is_among d b.away) after.away kept.away;
    holder = by_one (has_turn key) (λ d. is_held_by d a.holder) (λ d. is_held_by d b.holder) after.holder kept.holder;
  }

  -- whatever of a key is said of c as before stays
  pub record SaysOfIt (key : List ℕ) : Type 0 where
    pub in_line : is_in_line key row ≡ is_in_line key (t.consumer c)
    pub passed : is_passed key row ≡ is_passed key (t.consumer c)
    pub away : is_away t key row ≡ is_away t key (t.consumer c)
    pub turn : has_turn key row ≡ has_turn key (t.consumer c)

  pub at_it : (f : ℕ → Bool) (b : Bool) → f c ≡ b → (d : ℕ) → f d ≡ cond (eqb c d) b (f d)
  at_it f b is d = grind (arith, nat_tests)

  pub key_stays : (key : List ℕ) (a : keyed.Kept) → KeepsKey t key a → SaysOfIt key → KeyAfter key a a
  key_stays key a kept says = record {
    current = refl;
    in_line = at_it (λ d. is_among d a.in_line) _ (kept.in_line c ∙ sym says.in_line);
    passed = at_it (λ d. is_among d a.passed) _ (kept.passed c ∙ sym says.passed);
    away = at_it (λ d. is_among d a.away) _ (kept.away c ∙ sym says.away);
    holder = at_it (λ d. is_held_by d a.holder) _ (kept.holder c ∙ sym says.turn);
  }

  -- one key changes, and of every other the same is said
  pub keys_with : (f : keyed.Kept → keyed.Kept) (its : List ℕ) (a b : KeyTable) → ((k : List ℕ) → KeepsKey t k (kept_of a k)) → keys.Becomes f its a b →
      KeyAfter its (kept_of a its) (f (kept_of a its))
      → ((other : List ℕ) → bytes_eq its other ≡ false → SaysOfIt other) → (k : List ℕ) → KeepsKey (with_consumer c row t) k (kept_of b k)
  keys_with f its a b kept becomes after others k = by_test (bytes_eq its k) refl
    where
      by_test : (q : Bool) → bytes_eq its k ≡ q → KeepsKey (with_consumer c row t) k (kept_of b k)
      by_test true is =
          let one : its ≡ k = same_bytes its k is in
          rw (becomes k, is) (subst (λ (z : List ℕ). KeepsKey (with_consumer c row t) z (f (kept_of a its))) one
          (key_with its (kept_of a its) (f (kept_of a its)) (kept its) after))
      by_test false is = rw (becomes k, is) (key_with k (kept_of a k) (kept_of a k) (kept k) (key_stays k (kept_of a k) (kept k) (others k is)))
