-- A consumer waits for its key no more: what is kept by key represents the tables without it.
use Rattle.std.{proofs.Common.{◌≡◌, ℕ, List, Bool, true, false, Some, None, refl, ap, sym, ◌∙◌, subst}, specs.Prelude.{bytes_eq, ◌||◌}}
use Rattle.hc_rules.proofs.RangeReads.{same_bytes}
use Rattle.hc_entry.specs.{declared.keys.KeyTable.{KeyTable}, Kept.{on_line}, Keys.{kept_of, line_of}, Lines.{is_in, left_by}}
use Rattle.hc_text.specs.Sorted.{is_among}
use Rattle.hc_entry.specs.Kept as keyed
use Rattle.hc_effects.proofs.Vocabulary.{with_consumer, is_in_line, holds_turn, Tables}
use Rattle.hc_effects.proofs.Tests.{and_false}
use Rattle.hc_model.specs.Rows as rows
use Rattle.hc_state.specs.{Handlers.{LeftIf}, Leaving.{LeavesKey}, Lines.{KeepsKey, has_turn, is_passed, is_away}}
use Rattle.hc_state.proofs.{ConsumerSteps.{SaysOfIt, key_with, key_stays, keys_with}, KeySteps.{leaves_key, off_line, off_passed, off_away}, Apart.{or_offs}}

module _ (t : Tables) (c : ℕ) (v : rows.Consumer) (row : t.consumer c ≡ Some v) where
  -- nothing was said of it
  says_nothing : (key : List ℕ) → is_in_line key (Some v) ≡ false → is_passed key (Some v) ≡ false → is_away t key (Some v) ≡ false → SaysOfIt t c None key
  says_nothing key line passed away = record {
    in_line = sym (ap (is_in_line key) row ∙ line);
    passed = sym (ap (is_passed key) row ∙ passed);
    away = sym (ap (is_away t key) row ∙ away);
    turn = sym (ap (has_turn key) row ∙ and_false (is_in_line key (Some v)) (holds_turn (Some v)) line);
  }

  says_other : (key : List ℕ) → bytes_eq v.request.key key ≡ false → SaysOfIt t c None key
  says_other key off = says_nothing key (off_line key v off) (off_passed key v off) (off_away t key v off)

  says_here : (a : keyed.Kept) → KeepsKey t v.request.key a → (is_among c a.in_line || is_among c a.passed || is_among c a.away) ≡ false →
      SaysOfIt t c None v.request.key
  says_here a kept off =
      let offs = or_offs (is_among c a.in_line) (is_among c a.passed) (is_among c a.away) off in
      let key = v.request.key in
      says_nothing key
      (sym (ap (is_in_line key) row) ∙ (sym (kept.in_line c) ∙ offs.0))
      (sym (ap (is_passed key) row) ∙ (sym (kept.passed c) ∙ offs.1.0))
      (sym (ap (is_away t key) row) ∙ (sym (kept.away c) ∙ offs.1.1))

  pub keys_left : (a b : KeyTable) → ((key : List ℕ) → KeepsKey t key (kept_of a key)) → LeavesKey c v.request.key a b → (key : List ℕ) →
      KeepsKey (with_consumer c None t) key (kept_of b key)
  keys_left a b kept leave = by_test (is_in c (line_of a v.request.key)) refl leave
    where
      by_key : (key : List ℕ) (q : Bool) → is_in c (line_of a v.request.key) ≡ false → bytes_eq v.request.key key ≡ q → SaysOfIt t c None key
      by_key key false out off = says_other key off
      by_key key true out same =
          let one : v.request.key ≡ key = same_bytes v.request.key key same in
          subst (SaysOfIt t c None) one (says_here (kept_of a v.request.key) (kept v.request.key) out)

      by_test : (q : Bool) → is_in c (line_of a v.request.key) ≡ q → LeftIf q c v.request.key a b → (key : List ℕ) →
          KeepsKey (with_consumer c None t) key (kept_of b key)
      by_test true is left = keys_with t c None (on_line (left_by c)) v.request.key a b kept left
          (leaves_key t c None v.request.key (kept_of a v.request.key) refl refl refl refl) says_other
      by_test false is stays =
          λ key. rw (stays key) (key_with t c None key (kept_of a key) (kept_of a key) (kept key)
          (key_stays t c None key (kept_of a key) (kept key) (by_key key (bytes_eq v.request.key key) is refl)))
