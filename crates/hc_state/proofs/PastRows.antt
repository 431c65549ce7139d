-- Whoever reads past the store sees of an exchange its head, where its body begins, and where that ends.
use Rattle.std.{proofs.{lemmas.Bool.Decides.{nat_tests}, Common.{arith, ◌≡◌, ℕ, Option, Some, None, refl, ap, sym, ◌∙◌}}, specs.Prelude.{if◌then◌else◌}}
use Rattle.hc_effects.proofs.Vocabulary.{Place, total_in, base_in, end_in, lo_of, hi_of, Tables, place}
use Rattle.hc_model.specs.Rows as rows
use Rattle.hc_state.specs.Kept.{IsKept, KeepsConsumer, head_in, answer_for}
use Rattle.hc_txn.specs.declared.transaction.Transaction.{Transaction as Consumer}

-- of each exchange, and of each length
pub record SeesAlike (t s : Tables) : Type 0 where
  pub head : (y : ℕ) → head_in (s.exchange y) ≡ head_in (t.exchange y)
  pub begins : (y : ℕ) → base_in (s.exchange y) ≡ base_in (t.exchange y)
  pub ends : (y : ℕ) → end_in (s.exchange y) ≡ end_in (t.exchange y)
  pub length : (q : ℕ) → total_in (s.representation q) ≡ total_in (t.representation q)

module _ (t s : Tables) (alike : SeesAlike t s) where
  module _ (k : Consumer) (v : rows.Consumer) where
    answer_alike : (p : Place) → v.place ≡ p → answer_for s v ≡ answer_for t v
    answer_alike p at = grind (arith, nat_tests)

    lo_alike : (p : Place) → v.place ≡ p → lo_of s v.place ≡ lo_of t v.place
    lo_alike p at = grind (arith, nat_tests)

    hi_alike : (p : Place) → v.place ≡ p → hi_of s v.place ≡ hi_of t v.place
    hi_alike p at = grind (arith, nat_tests)

    kept_alike : IsKept t k v → IsKept s k v
    kept_alike kp = assumption (
      kp,
      kp.answer ∙ sym (answer_alike v.place refl),
      kp.begins ∙ sym (lo_alike v.place refl),
      kp.ends ∙ sym (hi_alike v.place refl),
    )

  pub consumer_alike : (k : Option Consumer) (row : Option rows.Consumer) → KeepsConsumer t k row → KeepsConsumer s k row
  consumer_alike None row kept = kept
  consumer_alike (Some k) None kept = kept
  consumer_alike (Some k) (Some v) kept = kept_alike k v kept
