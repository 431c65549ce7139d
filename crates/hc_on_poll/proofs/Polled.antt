-- What is known of a consumer that is polled: it is live, and its request has few and short fields.
use Rattle.std.{proofs.Common.{◌≡◌, ℕ, length, true, Some, sym, ap, ◌∙◌, subst, arith}, specs.{Prelude.{nat_eq, IsSomeAnd}, HashMap.{get}}}
use Rattle.hc_store.specs.declared.backend.Backend.{Ghosts}
use Rattle.hc_effects.proofs.Vocabulary.{Request, Place, is_live_place}
use Rattle.hc_fields.specs.FieldList.{IsWithinLimits, size_of}
use Rattle.hc_model.specs.Rows as rows
use Rattle.hc_state.specs.{declared.rows.Rows.{Rows}, Kept.{IsKept, KeepsConsumer}, Plans.{IsRequestWithinLimits}, Stands.{Stands}}
use Rattle.hc_txn.specs.declared.transaction.Transaction.{Transaction as Consumer}
use Rattle.hc_state.proofs.{Maps.{merely_true, merely_below, some_that}, Ties.{kept_row}, Words.{there}}

module _ {B : Type 0} {g : Ghosts B} (r : Rows B g) (some : ∥ Stands r ∥₁) (c : ℕ) (k : Consumer) (there : get nat_eq r.consumers c ≡ Some k) where
  its_row : (s : Stands r) → (v : rows.Consumer) × (s.t.consumer c ≡ Some v) × IsKept s.t k v
  its_row s =
      let t = s.t in
      kept_row t k (t.consumer c) (subst (λ o. KeepsConsumer t o (t.consumer c)) there (s.rows.consumers c))

  pub lives_there : is_live_place k.place ≡ true
  lives_there = merely_true (is_live_place k.place) some
      (λ s. (let (v, row, kept) = its_row s in ap (λ (p : Place). is_live_place p) kept.place ∙ kept.is_there))

  within_limits_in : (s : Stands r) → IsWithinLimits k.request.fields
  within_limits_in s = (let (v, row, kept) = its_row s in subst (λ (z : Request). IsWithinLimits z.fields) (sym kept.request) (s.within_limits c v row))

  pub within_limits_there : IsRequestWithinLimits k
  within_limits_there =
      let few = merely_below (length k.request.fields) 65 some (λ s. (let le = (within_limits_in s).few in omega (arith, le))) in
      let small = merely_below (size_of k.request.fields) 32769 some (λ s. (let le = (within_limits_in s).small in omega (arith, le))) in
      record { few = omega (arith, few); small = omega (arith, small) }

-- whatever else is known of it
pub limits_there : {B : Type 0} {g : Ghosts B} (r : Rows B g) → ∥ Stands r ∥₁ → (c : ℕ) (P : Consumer → Type 0) → IsSomeAnd (get nat_eq r.consumers c) P →
    IsSomeAnd (get nat_eq r.consumers c) IsRequestWithinLimits
limits_there r some c P is =
    let (k, at, known) = there (get nat_eq r.consumers c) P is in
    some_that (get nat_eq r.consumers c) k IsRequestWithinLimits at (within_limits_there r some c k at)
