-- What each consumer leaves by its place, and what goes with that: only what a 200 founded.
use Rattle.std.proofs.Common.{◌≡◌, ℕ, Option, Some, None, refl}
use Rattle.hc_effects.proofs.Vocabulary.{place, left_by, Lawful, own_open, Tables, Consumer}

-- WHAT IS LEFT

-- its own, where that is open
pub left_own : (t : Tables) (c x : ℕ) (k : Consumer) → own_open t k ≡ Some x → left_by t c k ≡ Some x
left_own t c x k own = rw own refl

module _ (t : Tables) (law : Lawful t) (c : ℕ) (k : Consumer) (row : t.consumer c ≡ Some k) where
  -- who waits for a body leaves nothing
  pub left_passed : (r : ℕ) (kept : Option ℕ) → k.place ≡ place.Passed r kept → left_by t c k ≡ None
  left_passed r kept at = rw ((law.places.passed c r kept k row at).unowned, at) refl
