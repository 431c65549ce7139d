-- Facts beside soundness, by which the detached reader stays sound: the exclusive writer has all up to where its
-- exchange goes on, and all the rest where it has none; and who waits with the turn or is bound isn't past the store.
use Rattle.std.proofs.Common.{◌≡◌, ℕ, Bool, true, false, Some, None}
use Rattle.hc_sparse.specs.Cells.{Covers}
use Rattle.hc_effects.proofs.Vocabulary.{is_disabled, Place, is_written, offset, Tables, Exchange, Representation, Consumer, IsBound, IsFirst, IsExclusiveWriter, place}
pub use Rattle.hc_model.specs.Fronts.{goes_on_at}
use Rattle.hc_effects.proofs.Losses.{HasRest}

-- it waits for its head with the turn, or is bound
abbrev pub is_cached_place : Place → Bool
is_cached_place (place.Turn x) = true
is_cached_place (place.Bound r lo hi by) = true
is_cached_place _ = false

pub record IsBeside (t : Tables) : Type 0 where
  pub covered : (r c x : ℕ) (v : Representation) (k : Consumer) (w : Exchange) → t.representation r ≡ Some v → IsExclusiveWriter t r v c →
      IsBound t r c k → k.due ≡ None → k.own ≡ Some x → t.exchange x ≡ Some w → Covers v.body (offset t k) (goes_on_at w w.head)
  pub rested : (r c : ℕ) (v : Representation) (k : Consumer) → t.representation r ≡ Some v → v.is_lost ≡ false → IsFirst t r c → IsBound t r c k →
      k.due ≡ None → k.own ≡ None → is_written t v ≡ false → HasRest t v k
  pub cached : (c : ℕ) (k : Consumer) → t.consumer c ≡ Some k → is_cached_place k.place ≡ true → is_disabled k.request ≡ false
