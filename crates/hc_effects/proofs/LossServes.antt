-- At a piece that is lost, each bound consumer goes on alone, has all that it needs, or gets a failure.
use Rattle.std.{proofs.{lemmas.Bool.Decides.{nat_tests}, Common.{arith, ◌≡◌, ℕ, Bool, true, cond, Some, None}}, specs.Prelude.{not, ◌&&◌}}
use Rattle.hc_effects.proofs.Vocabulary.{Cause, Entry, Tables, Representation, goes_on_with}

-- WHAT THE LOSS LEAVES OF THE ROW

pub record IsLostRow (t : Tables) (e : Entry) (r : ℕ) (v u : Representation) : Type 0 where
  pub lost : u.is_lost ≡ true
  pub alone_is : u.alone ≡ goes_on_with t e r v
  pub stored_is : u.stored ≡ v.stored
  pub total_is : u.head.total ≡ v.head.total

abbrev KeepsStore : Representation → Representation → Type 0
KeepsStore v u = (u.stored ≡ v.stored) × (u.head.total ≡ v.head.total) × (u.is_lost ≡ v.is_lost)

-- WHO IS SERVED

-- a member to which nothing becomes due at the loss of the writing is the survivor
pub survives : (b n : Bool) (a : Cause) → b ≡ true → (cond (b && not n) (Some a) None) ≡ None → n ≡ true
survives b n a on h = grind (arith, nat_tests)
