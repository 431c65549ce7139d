-- A consumer waits for its key no more, and is bound to nothing: what is kept by key and of representations represents
-- the tables then.
use Rattle.std.{proofs.{lemmas.Bool.Decides.{nat_tests}, Common.{arith, ◌≡◌, ◌≢◌, ℕ, List, Bool, true, false, Some, refl, ap, sym, ◌∙◌, subst}}, specs.Prelude.{bytes_eq, ◌||◌}}
use Rattle.hc_text.proofs.Basics.{eqb-other, eqb-same, false_true}
use Rattle.hc_rules.proofs.RangeReads.{same_bytes}
use Rattle.hc_entry.specs.{declared.keys.KeyTable.{KeyTable}, Keys.{kept_of, line_of}, Kept.{on_line}, Lines.{is_in, left_by}}
use Rattle.hc_text.specs.Sorted.{is_among}
use Rattle.hc_entry.specs.Kept as keyed
use Rattle.hc_stored.specs.Shelf.{Shelf}
use Rattle.hc_effects.proofs.Vocabulary.{with_consumer, Lawful, is_in_line, is_bound, Tables}
use Rattle.hc_effects.proofs.Tests.{and_false}
use Rattle.hc_model.specs.Rows as rows
use Rattle.hc_model.specs.Sound as sound
use Rattle.hc_state.specs.{Leaving.{LeavesKey, IsUserAt, UnbindsAt}, Lines.{KeepsKey, has_turn, is_passed, is_away}, Handlers.{LeftIf}, Stored.{KeepsEntries}}
use Rattle.hc_state.proofs.{ConsumerSteps.{SaysOfIt, key_with, key_stays, keys_with}, KeySteps.{leaves_key}, Unbinding.{entries_unbound, user_kept}}

-- TESTS

pub or_offs : (a b d : Bool) → (a || b || d) ≡ false → (a ≡ false) × ((b ≡ false) × (d ≡ false))
or_offs a b d off = grind (arith, nat_tests)

-- WHERE IT IS BOUND

-- where it is bound, it is kept that it is
pub user_at : (t : Tables) (law : Lawful t) (c : ℕ) (v : rows.Consumer) → t.consumer c ≡ Some v → (a : Shelf) → KeepsEntries t a → IsUserAt v.place c a
user_at t law c v row = user_kept t law.sound.numbered.lists.started c v row
    (λ q lo hi how at. law.sound.numbered.bound_to q c v (sound.is_bound lo hi how row at))

-- WHERE IT STANDS APART

module _ (t : Tables) (law : Lawful t) (c : ℕ) (v z : rows.Consumer) (row : t.consumer c ≡ Some v) (unbound : (q : ℕ) → is_bound q (Some z) ≡ false) where
  abbrev pub s : Tables
  s = with_consumer c (Some z) t

  here : s.consumer c ≡ Some z
  here = rw (eqb-same c) refl

  others : (d : ℕ) → d ≢ c → s.consumer d ≡ t.consumer d
  others d ne = rw (eqb-other c d (λ e. ne (sym e))) refl

  -- KEYS

  module _ (no_line : (key : List ℕ) → is_in_line key (Some z) ≡ false) (no_passed : (key : List ℕ) → is_passed key (Some z) ≡ false)
      (no_away : (key : List ℕ) → is_away t key (Some z) ≡ false) where
    no_turn : (key : List ℕ) → has_turn key (Some z) ≡ false
    no_turn key = and_false _ _ (no_line key)

    -- nothing was said of it
    says_nothing : (key : List ℕ) → is_in_line key (Some v) ≡ false → is_passed key (Some v) ≡ false → is_away t key (Some v) ≡ false →
        SaysOfIt t c (Some z) key
    says_nothing key line passed away = record {
      in_line = no_line key ∙ sym (ap (is_in_line key) row ∙ line);
      passed = no_passed key ∙ sym (ap (is_passed key) row ∙ passed);
      away = no_away key ∙ sym (ap (is_away t key) row ∙ away);
      turn = no_turn key ∙ sym (ap (has_turn key) row ∙ and_false _ _ line);
    }

    says_other : (key : List ℕ) → bytes_eq v.request.key key ≡ false → SaysOfIt t c (Some z) key
    says_other key off = says_nothing key (rw off refl) (rw off refl) (rw off refl)

    says_here : (a : keyed.Kept) → KeepsKey t v.request.key a → (is_among c a.in_line || is_among c a.passed || is_among c a.away) ≡ false →
        SaysOfIt t c (Some z) v.request.key
    says_here a kept off =
        let offs = or_offs (is_among c a.in_line) (is_among c a.passed) (is_among c a.away) off in
        let key = v.request.key in
        says_nothing key
        (sym (ap (is_in_line key) row) ∙ (sym (kept.in_line c) ∙ offs.0))
        (sym (ap (is_passed key) row) ∙ (sym (kept.passed c) ∙ offs.1.0))
        (sym (ap (is_away t key) row) ∙ (sym (kept.away c) ∙ offs.1.1))

    -- what is kept by key represents it
    pub keys_apart : (a b : KeyTable) → ((key : List ℕ) → KeepsKey t key (kept_of a key)) → LeavesKey c v.request.key a b → (key : List ℕ) →
        KeepsKey s key (kept_of b key)
    keys_apart a b kept leave = by_test (is_in c (line_of a v.request.key)) refl leave
      where
        by_key : (key : List ℕ) (q : Bool) → is_in c (line_of a v.request.key) ≡ false → bytes_eq v.request.key key ≡ q → SaysOfIt t c (Some z) key
        by_key key false out off = says_other key off
        by_key key true out same =
            let one : v.request.key ≡ key = same_bytes v.request.key key same in
            subst (SaysOfIt t c (Some z)) one (says_here (kept_of a v.request.key) (kept v.request.key) out)

        by_test : (q : Bool) → is_in c (line_of a v.request.key) ≡ q → LeftIf q c v.request.key a b → (key : List ℕ) → KeepsKey s key (kept_of b key)
        by_test true is left = keys_with t c (Some z) (on_line (left_by c)) v.request.key a b kept left
            (leaves_key t c (Some z) v.request.key (kept_of a v.request.key) (no_line v.request.key) (no_passed v.request.key) (no_away v.request.key)
            (no_turn v.request.key)) says_other
        by_test false is stays =
            λ key. rw (stays key) (key_with t c (Some z) key (kept_of a key) (kept_of a key) (kept key)
            (key_stays t c (Some z) key (kept_of a key) (kept key) (by_key key (bytes_eq v.request.key key) is refl)))

  -- REPRESENTATIONS

  -- what is kept of them represents it
  pub entries_apart : (a b : Shelf) → KeepsEntries t a → UnbindsAt v.place c a b → KeepsEntries s b
  entries_apart = entries_unbound t law.sound.numbered.lists.started c v z row unbound
